-- What the expressions of a script are evaluated for.
use Rattle.std.specs.Prelude.{ℕ, List}
use Rattle.sp_base.specs.Texts.{Pairs, Properties}

-- a resource's properties, its path, the last segment of its path, and its resource type; and the variables, names with texts, of which
-- the first of a name counts
pub record Bindings : Type 0 where
  pub props : Properties
  pub path : List ℕ
  pub name : List ℕ
  pub resource_type : List ℕ
  pub vars : Pairs

-- the same resource with these variables
abbrev pub with_vars : Bindings → Pairs → Bindings
with_vars scope vars = record { props = scope.props; path = scope.path; name = scope.name; resource_type = scope.resource_type; vars = vars }
