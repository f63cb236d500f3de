-- Why bytes are no file dispatcher.any (Adobe Dispatcher manual, "Configuring Dispatcher"): all members before the fault are whole, and the one in which it lies is not. Places are told by the bytes that are left there.
use Rattle.std.specs.Prelude.{◌≡◌, ℕ, zero, suc, Bool, true, false, ◌||◌, ◌==◌, List, [], ◌∷◌, length, drop, Ok, Err}
use Rattle.sp_base.specs.Bytes.{begins_with_byte}
use Rattle.any_config.specs.declared.stop.AnyStop.{AnyStop}
use Rattle.any_config.specs.declared.stop.AnyStop.TheVariants as stop
use Rattle.any_config.specs.declared.any_fault.AnyFault.{AnyFault}
use Rattle.any_config.specs.declared.node.AnyNode.{AnyNode}
use Rattle.any_config.specs.Tokens.{comments_skipped, is_config_name_byte, is_plain_byte, member_name}
use Rattle.any_config.specs.Read.{Members, deepest_group, ends_members, placed_answer}
use Rattle.any_config.specs.Grammar.{IsValue, AreMembers}

-- whether the text begins with a byte of this kind
abbrev pub first_byte_passes : (ℕ → Bool) → List ℕ → Bool
first_byte_passes test [] = false
first_byte_passes test (c ∷ t) = test c

-- `"` and `'`
abbrev pub is_quote_mark : ℕ → Bool
is_quote_mark c = c == 34 || c == 39

-- the bytes with which a value begins
abbrev pub begins_value : ℕ → Bool
begins_value c = c == 123 || (is_quote_mark c || is_plain_byte c)

-- A member begins here, where groups may still nest to this depth, and this is wrong with it: a slash without a name, a name or nothing before a byte that begins
-- no value, a mark that begins no text in quotes, a group nested too deep.
pub data IsBroken : ℕ → List ℕ → AnyStop → Type 0 where
  slash : {depth : ℕ} {t : List ℕ} → begins_with_byte 47 t ≡ true → first_byte_passes is_config_name_byte (drop 1 t) ≡ false → IsBroken depth t (stop.BadName (length t))
  no_value : {depth : ℕ} {t : List ℕ} (x : List ℕ × List ℕ) → member_name t ≡ Ok x → first_byte_passes begins_value x.1 ≡ false → IsBroken depth t (stop.BadName (length t))
  no_text : {depth : ℕ} {t : List ℕ} (x : List ℕ × List ℕ) → member_name t ≡ Ok x → first_byte_passes is_quote_mark x.1 ≡ true → ((n : AnyNode) (r : List ℕ) → IsValue depth x.1 n r → ⊥) → IsBroken depth t (stop.BadQuote (length x.1))
  too_deep : {t : List ℕ} (x : List ℕ × List ℕ) → member_name t ≡ Ok x → begins_with_byte 123 x.1 ≡ true → IsBroken zero t (stop.TooDeep (length x.1))

-- The first member that isn't whole: it is broken, or it is a group that holds such a member, or one that nothing closes though all that it holds is whole.
pub data IsFirstBroken : ℕ → List ℕ → AnyStop → Type 0 where
  broken : {depth : ℕ} {t : List ℕ} {s : AnyStop} → ends_members t ≡ false → IsBroken depth t s → IsFirstBroken depth t s
  later : {depth : ℕ} {t : List ℕ} {s : AnyStop} (x : List ℕ × List ℕ) (n : AnyNode) (rest : List ℕ) → ends_members t ≡ false → member_name t ≡ Ok x → IsValue depth x.1 n rest → IsFirstBroken depth (comments_skipped rest) s → IsFirstBroken depth t s
  within : {depth : ℕ} {t : List ℕ} {s : AnyStop} (x : List ℕ × List ℕ) → ends_members t ≡ false → member_name t ≡ Ok x → begins_with_byte 123 x.1 ≡ true → IsFirstBroken depth (comments_skipped (drop 1 x.1)) s → IsFirstBroken (suc depth) t s
  unclosed : {depth : ℕ} {t : List ℕ} (x : List ℕ × List ℕ) (ms : Members) → ends_members t ≡ false → member_name t ≡ Ok x → begins_with_byte 123 x.1 ≡ true → AreMembers depth (comments_skipped (drop 1 x.1)) ms []
      → IsFirstBroken (suc depth) t (stop.Unclosed (length x.1))

-- the first member of a file that isn't whole, or a `}` that closes nothing
pub data IsStop (text : List ℕ) : AnyStop → Type 0 where
  member : {s : AnyStop} → IsFirstBroken deepest_group (comments_skipped text) s → IsStop text s
  surplus : (ms : Members) (rest : List ℕ) → AreMembers deepest_group (comments_skipped text) ms rest → begins_with_byte 125 rest ≡ true → IsStop text (stop.BadName (length rest))

-- the same with the place counted from the beginning
pub record IsConfigFault (text : List ℕ) (fault : AnyFault) : Type 0 where
  pub left : AnyStop
  pub first : IsStop text left
  pub told : placed_answer text (Err left) ≡ Err fault
