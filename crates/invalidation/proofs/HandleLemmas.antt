-- What bytes say of a handle: as the text that they are, and nothing where they are none.
use Rattle.std.proofs.Common.{◌≡◌, ◌∙◌, ℕ, cond, List, None, ap, sym}
use Rattle.std.specs.Str.{is_utf8, IsUtf8}
use Rattle.std.proofs.lemmas.Bool.{false_from_ne_true}
use Rattle.std.proofs.lemmas.Str.{IsUtf8-from_is_utf8, is_utf8-from_IsUtf8}
use Rattle.invalidation.specs.Invalidations.{handle_in, unmangled_path_in}

-- a text spells the handle that its bytes spell
pub text_spells : (text bytes : List ℕ) → text ≡ bytes → IsUtf8 bytes → unmangled_path_in text ≡ handle_in bytes
text_spells text bytes same h = ap unmangled_path_in same ∙ sym (ap (λ b. cond b (unmangled_path_in bytes) None) (is_utf8-from_IsUtf8 bytes h))

-- bytes that are no text spell none
pub no_text_spells : (bytes : List ℕ) → (IsUtf8 bytes → ⊥) → None ≡ handle_in bytes
no_text_spells bytes other = sym (ap (λ b. cond b (unmangled_path_in bytes) None) (false_from_ne_true (is_utf8 bytes) (λ e. other (IsUtf8-from_is_utf8 bytes e))))
