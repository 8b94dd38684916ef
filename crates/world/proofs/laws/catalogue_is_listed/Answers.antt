-- Why `laws::catalogue_is_listed` meets its contract.
use Rattle.world.proofs.laws.catalogue_is_listed.Goals as goal

pub returns : goal.returns
returns c = record { base = c.database_is_of_catalogue.ensures; lawful = c.language_is_lawful.ensures.of_list }
