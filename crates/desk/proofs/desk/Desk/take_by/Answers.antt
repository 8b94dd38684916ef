-- Why `take_by` meets its contract.
use Rattle.std.proofs.Common.{ap, refl, rules, ◌≡◌, true, false, nat_eq, sym, ◌∙◌, subst, IfOk}
use Rattle.std.specs.Cmp.Lexicographic.{pointwise}
use Rattle.std.specs.List.{list_any}
use Rattle.catalog.specs.Relation.{catalogue_of}
use Rattle.reader.specs.Printable.{AreDistinct}
use Rattle.store.specs.declared.letter.Body.TheVariants as body
use Rattle.protocol.specs.Desk.{on_desk_letter}
use Rattle.protocol.specs.Letters.{txn_name}
use Rattle.desk.specs.Called.{CallsStore}
use Rattle.desk.specs.Request.{txn_in}
use Rattle.desk.specs.Database.{language, replied}
use Rattle.desk.specs.Does.{IsPastLimits, Takes}
use Rattle.desk.specs.OfCatalogue.{IsNextOf, first_in}
use Rattle.desk.specs.State.{volatile_of}
use Rattle.desk.specs.Receive.{may_send}
use Rattle.desk.proofs.Called.{no_call, steps_as}
use Rattle.desk.proofs.Quiet.{among_there, may_be_memory, memory_is_not_full, loud_takes, not_strange, quiet_takes, said_is}
use Rattle.desk.proofs.desk.Desk.take_by.Goals as goal

pub returns-then-not-is_among : goal.returns-then-not-is_among
returns-then-not-is_among g c = record {
  takes = record {
    store = no_call c.args.self.now.store _ c.passed_over-then-not-is_among.ensures.kept;
    ok = λ db reply of same next clean sound fits body among.
        let letter = c.args.letter.now in
        let there = among_there db of c.args.self.now.volatile.version (catalogue_of c.args.self.now.catalog) same letter.site among in
        let gone : list_any (λ other. pointwise nat_eq other letter.site) c.args.self.now.catalog.0 ≡ false = search rules in
        let e : true ≡ false = sym there ∙ gone in
        absurd (cc);
    strange = λ strange. (refl, (refl, refl));
    silent = λ strange. (c.passed_over-then-not-is_among.ensures.letters, c.passed_over-then-not-is_among.ensures.replies, c.passed_over-then-not-is_among.ensures.kept);
    own = tt;
    full = λ db reply of same next fits says among full. (let e = full in cc);
    full_at = λ reply says full. (let e = full in cc);
    err = tt;
    catalog = refl;
    later = refl;
  };
}

pub returns-then-may_send : goal.returns-then-may_send
returns-then-may_send g c = record {
  takes = record {
    store = no_call c.args.self.now.store _ c.on_reply.ensures.steps.kept;
    ok = λ db reply of same next clean sound fits says among.
        let letter = c.args.letter.now in
        let said = c.in-Reply.reply in
        let volatile = c.args.self.now.volatile in
        let kept = g.S.DeskStore.kept c.args.self.now.store in
        let here : letter.body ≡ body.Reply said = search rules in
        let is : said ≡ reply = said_is (sym here ∙ says) in
        subst (λ x. IfOk c.on_reply.result (λ out. Takes db (volatile_of volatile) kept (volatile_of c.on_reply.new.volatile) letter.txn (λ choice. on_desk_letter (txn_name letter.txn) letter.site out.kept choice (replied db letter.site x) (txn_in db (volatile_of volatile) letter.txn)) out.letters out.replies)) is
        (loud_takes db (volatile_of volatile) kept (volatile_of c.on_reply.new.volatile) letter.txn letter.site said c.on_reply.result c.on_reply.ensures.steps.kept (c.on_reply.ensures.ok db kept of same (subst (IsNextOf db volatile.version) (sym (c.first_in-next.ensures ∙ ap first_in c.as_slice.ensures.value)) next) fits among));
    strange = λ strange.
        let letter = c.args.letter.now in
        let said = c.in-Reply.reply in
        let here : letter.body ≡ body.Reply said = search rules in
        let among : list_any (λ other. pointwise nat_eq other letter.site) c.args.self.now.catalog.0 ≡ true = search rules in
        absurd (not_strange c.args.self.now.catalog.0 letter said here among strange);
    silent = λ strange.
        let letter = c.args.letter.now in
        let said = c.in-Reply.reply in
        let here : letter.body ≡ body.Reply said = search rules in
        let among : list_any (λ other. pointwise nat_eq other letter.site) c.args.self.now.catalog.0 ≡ true = search rules in
        absurd (not_strange c.args.self.now.catalog.0 letter said here among strange);
    own = c.on_reply.ensures.steps.own;
    full = λ db reply of same next fits says among full.
        let letter = c.args.letter.now in
        let said = c.in-Reply.reply in
        let volatile = c.args.self.now.volatile in
        let here : letter.body ≡ body.Reply said = search rules in
        let is : said ≡ reply = said_is (sym here ∙ says) in
        subst (λ x. IsPastLimits db (volatile_of volatile) letter.txn (λ choice. on_desk_letter (txn_name letter.txn) letter.site true choice (replied db letter.site x) (txn_in db (volatile_of volatile) letter.txn))) is
        (c.on_reply.ensures.full db (g.S.DeskStore.kept c.args.self.now.store) of same (subst (IsNextOf db volatile.version) (sym (c.first_in-next.ensures ∙ ap first_in c.as_slice.ensures.value)) next) fits among full);
    full_at = λ reply says full.
        let letter = c.args.letter.now in
        let said = c.in-Reply.reply in
        let here : letter.body ≡ body.Reply said = search rules in
        let is : said ≡ reply = said_is (sym here ∙ says) in
        let sends : may_send ((volatile_of c.args.self.now.volatile).standing letter.txn) letter.site said ≡ true = search rules in
        subst (λ x. may_send ((volatile_of c.args.self.now.volatile).standing letter.txn) letter.site x ≡ true) is sends;
    err = c.on_reply.ensures.steps.err;
    catalog = refl;
    later = refl;
  };
}

pub returns : goal.returns
returns g c = record {
  takes = record {
    store = steps_as (λ called db reply of same next fits says.
        let letter = c.args.letter.now in
        let said = c.in-Reply.reply in
        let here : letter.body ≡ body.Reply said = search rules in
        let is : said ≡ reply = said_is (sym here ∙ says) in
        subst (λ x. CallsStore {L = language db} letter.site (replied db letter.site x) (txn_in db (volatile_of c.args.self.now.volatile) letter.txn)) is (called db (subst AreDistinct (sym (of.sites c.args.self.now.volatile.version)) (of.formed c.args.self.now.volatile.version).distinct) fits)) c.take.ensures.store;
    ok = λ db reply of same next clean sound fits says among.
        let letter = c.args.letter.now in
        let said = c.in-Reply.reply in
        let volatile = c.args.self.now.volatile in
        let new = g.S.DeskStore.kept c.take.new.store in
        let here : letter.body ≡ body.Reply said = search rules in
        let is : said ≡ reply = said_is (sym here ∙ says) in
        let rests : may_send ((volatile_of volatile).standing letter.txn) letter.site said ≡ false = search rules in
        let distinct : AreDistinct db.sites = subst AreDistinct (sym (of.sites volatile.version)) (of.formed volatile.version).distinct in
        subst (λ x. IfOk c.take.result (λ out. Takes db (volatile_of volatile) new (volatile_of c.take.new.volatile) letter.txn (λ choice. on_desk_letter (txn_name letter.txn) letter.site out.kept choice (replied db letter.site x) (txn_in db (volatile_of volatile) letter.txn)) out.letters out.replies)) is
        (quiet_takes db (volatile_of volatile) new (volatile_of c.take.new.volatile) letter.txn letter.site said rests c.take.result (λ choice. c.take.ensures.ok db choice distinct clean sound fits));
    strange = λ strange.
        let letter = c.args.letter.now in
        let said = c.in-Reply.reply in
        let here : letter.body ≡ body.Reply said = search rules in
        let among : list_any (λ other. pointwise nat_eq other letter.site) c.args.self.now.catalog.0 ≡ true = search rules in
        absurd (not_strange c.args.self.now.catalog.0 letter said here among strange);
    silent = λ strange.
        let letter = c.args.letter.now in
        let said = c.in-Reply.reply in
        let here : letter.body ≡ body.Reply said = search rules in
        let among : list_any (λ other. pointwise nat_eq other letter.site) c.args.self.now.catalog.0 ≡ true = search rules in
        absurd (not_strange c.args.self.now.catalog.0 letter said here among strange);
    own = may_be_memory c.take.result c.take.ensures.own;
    full = λ db reply of same next fits says among full. absurd (memory_is_not_full c.take.result c.take.ensures.own full);
    full_at = λ reply says full. absurd (memory_is_not_full c.take.result c.take.ensures.own full);
    err = c.take.ensures.err;
    catalog = refl;
    later = refl;
  };
}
