-- Where a part has no meaning, the whole has none.
use Rattle.std.proofs.Common.{◌≡◌, ◌≢◌, Option, None, refl}
use Rattle.reader.specs.declared.fault.Rule.{Rule}
use Rattle.reader.specs.declared.fault.Rule.TheVariants as rules
use Rattle.reader.specs.Resolving.{HasNone}

-- where the whole has no meaning once a part has none, a refused part refuses the whole
pub none_of_whole : {X Y : Type 0} (rule : Rule) (part : Option X) (whole : Option Y) → (part ≡ None → whole ≡ None) → HasNone rule part → HasNone rule whole
none_of_whole rules.Memory part whole stops none = tt
none_of_whole rules.TooLong part whole stops none = stops none
none_of_whole rules.Character part whole stops none = stops none
none_of_whole rules.Syntax part whole stops none = stops none
none_of_whole rules.NoRelation part whole stops none = stops none
none_of_whole rules.NoColumn part whole stops none = stops none
none_of_whole rules.Ambiguous part whole stops none = stops none
none_of_whole rules.WrongType part whole stops none = stops none
none_of_whole rules.KeyColumn part whole stops none = stops none
none_of_whole rules.JoinNotKey part whole stops none = stops none
none_of_whole rules.Count part whole stops none = stops none
none_of_whole rules.Limit part whole stops none = stops none

-- a rule that refuses says that there is no meaning
pub none_by_rule : {Y : Type 0} (rule : Rule) (meant : Option Y) → rule ≢ rules.Memory → HasNone rule meant → meant ≡ None
none_by_rule rules.Memory meant other none = absurd (other refl)
none_by_rule rules.TooLong meant other none = none
none_by_rule rules.Character meant other none = none
none_by_rule rules.Syntax meant other none = none
none_by_rule rules.NoRelation meant other none = none
none_by_rule rules.NoColumn meant other none = none
none_by_rule rules.Ambiguous meant other none = none
none_by_rule rules.WrongType meant other none = none
none_by_rule rules.KeyColumn meant other none = none
none_by_rule rules.JoinNotKey meant other none = none
none_by_rule rules.Count meant other none = none
none_by_rule rules.Limit meant other none = none
