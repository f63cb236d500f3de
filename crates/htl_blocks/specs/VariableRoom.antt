-- Room for variables. Only proofs and private functions need this.
use Rattle.std.specs.Prelude.{◌≡◌, ◌≢◌, ◌≤◌, ◌<◌, ◌+◌, ℕ, List, ◌∷◌, Result, Ok, Err, length}
use Rattle.sp_base.specs.Limits.{most_rendered_bytes}
use Rattle.sp_base.specs.Texts.{Pairs}
use Rattle.htl_blocks.specs.declared.run_fault.RunFault.{RunFault}
use Rattle.htl_blocks.specs.declared.run_fault.RunFault.TheVariants.{TooLong, NoMemory}
use Rattle.htl_blocks.specs.Written.{text_of_vars}

-- so much is left of a room by so many bytes, if they have room in it
abbrev pub IsRoomLeft : ℕ → ℕ → Result ℕ RunFault → Type 0
IsRoomLeft room len (Ok left) = left + len ≡ room
IsRoomLeft room len (Err fault) = (fault ≡ TooLong) × (room < len)

-- how many bytes variables have
abbrev pub vars_len : Pairs → ℕ
vars_len vars = length (text_of_vars vars)

-- with one more, variables aren't too long
abbrev pub HasVariableRoom : List ℕ → Pairs → List ℕ → Type 0
HasVariableRoom name vars text = vars_len ((name, text) ∷ vars) ≤ most_rendered_bytes

-- with one more they are, unless memory lacks
abbrev pub HasNoRoomIfMemory : List ℕ → Pairs → List ℕ → RunFault → Type 0
HasNoRoomIfMemory name vars text fault = fault ≢ NoMemory → (fault ≡ TooLong) × (most_rendered_bytes < vars_len ((name, text) ∷ vars))
