use Rattle.std.proofs.Common.{[], ap, ◌∙◌}
use Rattle.desk.specs.OfCatalogue.{from_number}
use Rattle.databases.proofs.world_opener.ListsOpensWorldPlainDeskPlainSite.open.Goals as goal

pub returns-in-Ok-clause-ok : goal.returns-in-Ok-clause-ok
returns-in-Ok-clause-ok c = λ catalogue is.
    let last = c.in-Ok.ensures.single catalogue is in
    record {
      none = c.in-Ok.ensures.none;
      catalog = last.is;
      single = last.none;
      sound = λ clean. c.in-Ok.ensures.sound;
      stands = λ clean. (c.in-Ok.ensures.alone catalogue (c.requires catalogue [] is) last).1;
      run = λ clean. (c.in-Ok.ensures.alone catalogue (c.requires catalogue [] is) last).0;
    }

pub returns-in-Ok-clause-lists : goal.returns-in-Ok-clause-lists
returns-in-Ok-clause-lists c = λ first rest is.
    let opened = c.in-Ok.ensures.ok first rest is (c.requires first rest is) in
    record {
      none = c.in-Ok.ensures.none;
      number = 1;
      catalogs = c.in-Ok.ensures.catalogs ∙ ap (from_number 1) is;
      sound = λ clean. c.in-Ok.ensures.sound;
      stands = λ clean. opened.1;
      run = λ clean. opened.0;
    }
