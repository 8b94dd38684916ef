-- Why `laws::one_client_letter_by_letter` meets its contract.
use Rattle.std.proofs.Common.{◌≡◌, true}
use Rattle.catalog.specs.Relation.{catalogue_of}
use Rattle.protocol.proofs.StatementCourse.{course_law}
use Rattle.world.proofs.DatabaseSites.{sites_once}
use Rattle.world.proofs.laws.one_client_letter_by_letter.Goals as goal

pub returns : goal.returns
returns c = λ excused. course_law c.language_is_lawful.ensures.of_language (sites_once (catalogue_of c.args.catalog.now) c.relations.ensures.formed) (excused ≡ true)
