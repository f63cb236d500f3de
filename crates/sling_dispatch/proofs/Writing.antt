-- What a sink holds after one text and then another, or a prefix of it.
use Rattle.std.proofs.Common.{◌≡◌, ◌+◌, ◌-◌, ◌++◌, ℕ, List, Option, Some, None, length, take, drop, sym, ◌∙◌, ap, append_assoc, take-add}
use Rattle.std.proofs.lemmas.List.{take_rest}
use Rattle.std.proofs.Math.Seq.{take-append-add}
use Rattle.sp_outside.specs.Told.{held_after, before_taking}
use Rattle.sockets.proofs.Giving.{held_after-append}

pub wrote_more : (old mid new : Option (List ℕ)) (bytes : List ℕ) (at n : ℕ) → mid ≡ held_after old (take at bytes)
    → new ≡ held_after mid (take n (take (length bytes - at) (drop at bytes))) → new ≡ held_after old (take (at + n) bytes)
wrote_more old mid new bytes at n e h =
    h ∙ ap (λ t. held_after mid (take n t)) (take_rest bytes at) ∙ ap (λ m. held_after m (take n (drop at bytes))) e
    ∙ held_after-append old (take at bytes) (take n (drop at bytes)) ∙ ap (held_after old) (sym (take-add at n bytes))

-- what was taken first and what was taken next were taken together
pub taken_more : (old mid new : Option (List ℕ)) (a b : List ℕ) → old ≡ before_taking a mid → mid ≡ before_taking b new
    → old ≡ before_taking (a ++ b) new
taken_more old mid None a b e h = e ∙ ap (before_taking a) h
taken_more old mid (Some rest) a b e h = e ∙ ap (before_taking a) h ∙ ap Some (sym (append_assoc a b rest))

-- one text was added after another
pub sent_both : (old mid new : Option (List ℕ)) (a b : List ℕ) → mid ≡ held_after old a → new ≡ held_after mid b → new ≡ held_after old (a ++ b)
sent_both old mid new a b e h = h ∙ ap (λ m. held_after m b) e ∙ held_after-append old a b

-- one text was added, and a prefix of another after it
pub sent_prefix : (old mid new : Option (List ℕ)) (a b : List ℕ) (n : ℕ) → mid ≡ held_after old a → new ≡ held_after mid (take n b)
    → new ≡ held_after old (take (length a + n) (a ++ b))
sent_prefix old mid new a b n e h = sent_both old mid new a (take n b) e h ∙ ap (held_after old) (sym (take-append-add a b n))
