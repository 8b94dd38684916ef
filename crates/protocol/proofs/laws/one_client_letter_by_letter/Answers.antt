use Rattle.std.proofs.Common.{◌≡◌, true}
use Rattle.protocol.proofs.StatementCourse.{course_law}
use Rattle.protocol.proofs.ToyLaws.{toy_lawful, toy_once}
use Rattle.protocol.proofs.laws.one_client_letter_by_letter.Goals as goal

pub returns : goal.returns
returns c = λ excused. course_law toy_lawful toy_once (excused ≡ true)
