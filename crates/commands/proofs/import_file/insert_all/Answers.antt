use Rattle.std.proofs.Common.{ℕ, Ok, ap, false, length, refl, subst, true}
use Rattle.catalog.specs.Relation.{catalogue_of}
use Rattle.commands.specs.Import.{Comes, IsCutShort, import_of}
use Rattle.commands.specs.ImportFile.{many_of}
use Rattle.lines.specs.Reply.{told_by}
use Rattle.commands.proofs.ImportFileLemmas.{has_inserted}
use Rattle.commands.proofs.ImportLemmas.{cut_comes}
use Rattle.commands.proofs.import_file.insert_all.Goals as goal

pub returns-in-All : goal.returns-in-All
returns-in-All g c =
    let seen = g.B.Database.seen in
    let name = c.args.relation.now.name in
    let rows = c.args.rows.now in
    let opened = c.in_ok-database.database in
    let ended = c.import.new.database in
    let answers = import_of (many_of c.args.many (length rows)) name rows in
    let comes : Comes seen answers opened ended = subst (λ (many : ℕ). Comes seen (import_of many name rows) opened ended) {y = many_of c.args.many (length rows)} c.many_of-many.ensures.is (c.in_ok-import.ensures.all (ap (λ r. Ok r) c.in-All.is)) in
    has_inserted seen g.O.Opens.origin (catalogue_of c.args.catalog.now) name rows c.args.many false _ _ opened ended answers (length rows) c.in_ok-database.ensures.ok c.moves_follow.ensures (refl, refl) comes c.in_ok-tell_count-in-All.ensures.told

pub returns : goal.returns
returns g c =
    let seen = g.B.Database.seen in
    let name = c.args.relation.now.name in
    let rows = c.args.rows.now in
    let opened = c.in_ok-database.database in
    let ended = c.import.new.database in
    let told = told_by c.in-Until.reply in
    let many = many_of c.args.many (length rows) in
    let cut : IsCutShort seen many name rows opened ended c.in-Until.committed told = subst (λ (many : ℕ). IsCutShort seen many name rows opened ended c.in-Until.committed told) {y = many_of c.args.many (length rows)} c.many_of-many.ensures.is (c.in_ok-import.ensures.until c.in-Until.row c.in-Until.committed c.in-Until.reply (ap (λ r. Ok r) c.in-Until.is)) in
    let so = cut_comes seen many name rows opened ended c.in-Until.committed told cut in
    has_inserted seen g.O.Opens.origin (catalogue_of c.args.catalog.now) name rows c.args.many true _ _ opened ended so.0 c.in-Until.committed c.in_ok-database.ensures.ok c.moves_follow.ensures so.1 so.2 c.in_ok-tell_count-in-Until.ensures.told
