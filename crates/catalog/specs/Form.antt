-- What the code reads of a node, as the definitions see it.
use Rattle.std.specs.Prelude.{ℕ, List, map}
use Rattle.std.specs.Global.{Vec}
use Rattle.std.specs.Borrow.{Bor}
use Rattle.toml.specs.View.{view}
use Rattle.catalog.specs.declared.form.Form as code
use Rattle.catalog.specs.declared.form.Form.TheVariants as forms
use Rattle.catalog.specs.Node.{Form, AtSite, SplitByRows, SplitByCols, Ill}

-- what a node says, seen as the definition says it
abbrev pub form_view : code.Form → Form
form_view (forms.AtSite name) = AtSite name.now
form_view (forms.ByRows branches) = SplitByRows (map view branches.now)
form_view (forms.ByCols groups) = SplitByCols (map view groups.now)
form_view forms.Ill = Ill

-- the bytes of texts
abbrev pub texts_of : Vec (Bor (List ℕ)) → List (List ℕ)
texts_of texts = map (λ text. text.now) texts.items
