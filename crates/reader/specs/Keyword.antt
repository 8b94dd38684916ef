-- The keywords.
use Rattle.std.specs.Prelude.{ℕ, List, codes}
use Rattle.reader.specs.declared.keyword.Keyword.{Keyword}
use Rattle.reader.specs.declared.keyword.Keyword.TheVariants.{Select, From, Join, On, Where, And, Insert, Into, Values, Update, Set, Delete, Begin, Commit, Rollback, Refragment}

-- a keyword in capitals
abbrev pub keyword_text : Keyword → List ℕ
keyword_text Select = codes "SELECT"
keyword_text From = codes "FROM"
keyword_text Join = codes "JOIN"
keyword_text On = codes "ON"
keyword_text Where = codes "WHERE"
keyword_text And = codes "AND"
keyword_text Insert = codes "INSERT"
keyword_text Into = codes "INTO"
keyword_text Values = codes "VALUES"
keyword_text Update = codes "UPDATE"
keyword_text Set = codes "SET"
keyword_text Delete = codes "DELETE"
keyword_text Begin = codes "BEGIN"
keyword_text Commit = codes "COMMIT"
keyword_text Rollback = codes "ROLLBACK"
keyword_text Refragment = codes "REFRAGMENT"
