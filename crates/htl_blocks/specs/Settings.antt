-- Settings and lists while a script is written. Only proofs and private functions need this.
use Rattle.std.specs.Prelude.{◌≡◌, Some}
use Rattle.htl_expr.specs.Bindings.{Bindings, with_vars}
use Rattle.htl_expr.specs.Value.{list_in}
use Rattle.htl_expr.specs.Variables.{vars_of}
use Rattle.htl_blocks.specs.declared.setting.Setting.{Setting}
use Rattle.htl_blocks.specs.declared.repetition.Repetition.{Repetition}
use Rattle.htl_blocks.specs.Pieces.{within}
use Rattle.htl_blocks.specs.Written.{statement_value}

-- what the expressions see in a setting
abbrev pub seen_at : Bindings → Setting → Bindings
seen_at scope setting = with_vars scope (vars_of setting.vars.now)

-- the variables of a setting are those of the rounds that it stands in
abbrev pub IsSettingIn : Bindings → Setting → Type 0
IsSettingIn scope setting = within scope setting.frame.now.rounds ≡ seen_at scope setting

-- the items are those of the list
abbrev pub HasItems : Bindings → Repetition → Type 0
HasItems scope repetition = Some repetition.items ≡ list_in (statement_value scope repetition.list.now)
