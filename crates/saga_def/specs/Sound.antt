-- The properties of the contents of a definition.
use Rattle.saga_def.specs.Contents.{Contents}
use Rattle.std.specs.Prelude.{length}
use Rattle.saga_def.specs.Adjacency.{ListsNeeds, ListsDependants}
use Rattle.saga_def.specs.declared.adjacency.Adjacency.{Adjacency}
use Rattle.saga_def.specs.Order.{IsAcyclic}
use Rattle.saga_def.specs.Rules.{HasSteps, HasFewSteps, HasFewNeeds, HasGoodNames, HasDistinctNames, HasKnownNeeds, HasSingleNeeds, AllPricesAreSmall, AllTriesAreInRange}

-- all rules except the one about cycles
pub record KeepsRules (c : Contents) : Type 0 where
  pub some : HasSteps c
  pub few_steps : HasFewSteps c
  pub few_needs : HasFewNeeds c
  pub names : HasGoodNames c
  pub distinct : HasDistinctNames c
  pub known : HasKnownNeeds c
  pub single : HasSingleNeeds c
  pub small : AllPricesAreSmall c
  pub tries : AllTriesAreInRange c

-- all the rules
pub record IsSound (c : Contents) : Type 0 where
  pub some : HasSteps c
  pub few_steps : HasFewSteps c
  pub few_needs : HasFewNeeds c
  pub names : HasGoodNames c
  pub distinct : HasDistinctNames c
  pub known : HasKnownNeeds c
  pub single : HasSingleNeeds c
  pub small : AllPricesAreSmall c
  pub tries : AllTriesAreInRange c
  pub acyclic : IsAcyclic c.needs

-- sound contents, and the adjacency lists of their needs
pub record IsDefinition (c : Contents) (adjacency : Adjacency) : Type 0 where
  pub sound : IsSound c
  pub needs : ListsNeeds c.needs (length c.steps) adjacency.needs
  pub dependants : ListsDependants c.needs (length c.steps) adjacency.dependants
