-- The signs.
use Rattle.std.specs.Prelude.{ℕ, List, codes}
use Rattle.reader.specs.declared.sign.Sign.{Sign}
use Rattle.reader.specs.declared.sign.Sign.TheVariants.{Comma, Dot, Open, Close, Equal, NotEqual, Less, LessOrEqual, Greater, GreaterOrEqual, Plus, Minus, Star, Semicolon}

-- the characters of a sign
abbrev pub sign_text : Sign → List ℕ
sign_text Comma = codes ","
sign_text Dot = codes "."
sign_text Open = codes "("
sign_text Close = codes ")"
sign_text Equal = codes "="
sign_text NotEqual = codes "<>"
sign_text Less = codes "<"
sign_text LessOrEqual = codes "<="
sign_text Greater = codes ">"
sign_text GreaterOrEqual = codes ">="
sign_text Plus = codes "+"
sign_text Minus = codes "-"
sign_text Star = codes "*"
sign_text Semicolon = codes ";"
