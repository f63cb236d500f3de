-- Which bytes are held, by one owner or by several. Only private types and functions need this.
use Rattle.std.specs.Prelude.{ℕ, List}
use Rattle.sp_base.specs.declared.bytes.HeldBytes.{HeldBytes}
use Rattle.sp_base.specs.declared.bytes.HeldBytes.TheVariants.{Alone, Shared}

-- the bytes that are held
abbrev pub held_bytes : HeldBytes → List ℕ
held_bytes (Alone bytes) = bytes.items
held_bytes (Shared bytes) = bytes.value.items
