-- What the nodes of a relation speak of, as the definitions see it.
use Rattle.catalog.specs.declared.frame.Frame as code
use Rattle.catalog.specs.Describes.{Frame}

-- what nodes speak of, seen as the definitions say it
abbrev pub frame_of : code.Frame → Frame
frame_of f = record { sites = f.sites.now; columns = f.columns.now }
