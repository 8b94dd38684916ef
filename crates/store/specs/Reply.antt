-- Names in the letters of sites.
use Rattle.std.specs.Prelude.{ℕ, List, codes}
use Rattle.store.specs.declared.reply.Reason.{Reason}
use Rattle.store.specs.declared.reply.Reason.TheVariants.{Lock, Full, Gone}
use Rattle.store.specs.declared.reply.Vote.{Vote}
use Rattle.store.specs.declared.reply.Vote.TheVariants.{Yes, No, Read}

abbrev pub reason_name : Reason → List ℕ
reason_name Lock = codes "Lock"
reason_name Full = codes "Full"
reason_name Gone = codes "Gone"

abbrev pub vote_name : Vote → List ℕ
vote_name Yes = codes "YES"
vote_name No = codes "NO"
vote_name Read = codes "READ"
