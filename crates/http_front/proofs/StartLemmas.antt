-- From the window of a stream to the stream.
use Rattle.std.proofs.Common.{◌≡◌, ◌≢◌, ◌<◌, ◌≤◌, ◌⊎◌, inl, inr, ℕ, List, ◌++◌, length, min, drop, refl, sym, ◌∙◌, ap, subst, arith, length-append, ⊎_elim}
use Rattle.std.proofs.lemmas.List.{take-append-drop, drop-append-le, length-take}
use Rattle.httparse.specs.Grammar.{HasNoRequest, NeverHasRequest, MayBecomeRequest}
use Rattle.http_front.specs.declared.fault.InFault.{InFault}
use Rattle.http_front.specs.declared.fault.InFault.TheVariants.{BadHead, LongHead}
use Rattle.http_front.specs.declared.head.AskedHead.{AskedHead}
use Rattle.http_front.specs.declared.window.StreamStart.{StreamStart}
use Rattle.http_front.specs.declared.window.StreamStart.TheVariants.{Partial, Crowded}
use Rattle.http_front.specs.StreamBeginnings.{IsStart}
use Rattle.http_front.specs.Turns.{longest_head, window, BeginsWith, BeginsAsking, BeginsRefused, AwaitsHead, HasNoHead}
use Rattle.http_front.proofs.TurnLemmas.{begins_append}

rejoined : (s : List ℕ) → window s ++ drop longest_head s ≡ s
rejoined s = take-append-drop longest_head s

window_within : (s : List ℕ) → length (window s) ≤ length s
window_within s = let e = ap length (rejoined s) in omega (arith, e, length-append (window s) (drop longest_head s))

pub window_short : (s : List ℕ) → length (window s) ≤ longest_head
window_short s = let e = length-take longest_head s in grind arith

pub start_whole : (s w : List ℕ) (a : AskedHead) (len : ℕ) → w ≡ window s → (0 < len) × (len ≤ length w) × BeginsAsking w a (drop len w) → (0 < len) × (len ≤ length s) × BeginsAsking s a (drop len s)
start_whole s w a len e found =
    let more = drop longest_head s in
    let whole : w ++ more ≡ s = ap (λ x. x ++ more) e ∙ rejoined s in
    let b = found.2 in
    let rest : drop len w ++ more ≡ drop len s = sym (drop-append-le len w more found.1) ∙ ap (drop len) whole in
    let begins = begins_append w more b.head (drop len w) b.begins in (
      found.0,
      omega (arith, found.1, ap length e, window_within s),
      record {
        head = b.head;
        begins = subst (λ r. BeginsWith s b.head r) rest (subst (λ x. BeginsWith x b.head (drop len w ++ more)) whole begins);
        asks = b.asks;
      },
    )

pub start_refused : (s w : List ℕ) (fault : InFault) → w ≡ window s → BeginsRefused w fault ⊎ ((fault ≡ BadHead) × NeverHasRequest w) → BeginsRefused s fault ⊎ HasNoHead s fault
start_refused s w fault e found = ⊎_elim
    (λ b.
    let more = drop longest_head s in
    let whole : w ++ more ≡ s = ap (λ x. x ++ more) e ∙ rejoined s in
    inl (record {
      head = b.head;
      rest = b.rest ++ more;
      begins = subst (λ x. BeginsWith x b.head (b.rest ++ more)) whole (begins_append w more b.head b.rest b.begins);
      refused = b.refused;
    }))
    (λ never. inr (inl (never.0, subst NeverHasRequest e never.1)))
    found

pub start_long : (s w : List ℕ) → w ≡ window s → HasNoRequest w × MayBecomeRequest w → length w ≡ longest_head → BeginsRefused s LongHead ⊎ HasNoHead s LongHead
start_long s w e found full =
    inr (inr (refl, (subst (λ x. HasNoRequest x × MayBecomeRequest x) e found, omega (arith, full, ap length e, window_within s))))

pub start_partial : (s w : List ℕ) → w ≡ window s → HasNoRequest w × MayBecomeRequest w → length w ≢ longest_head → AwaitsHead s × (length s < longest_head)
start_partial s w e found unfilled =
    (subst (λ x. HasNoRequest x × MayBecomeRequest x) e found, by_size (length w) (ap length e ∙ length-take longest_head s) unfilled)
  where
    by_size : (n : ℕ) → n ≡ min longest_head (length s) → n ≢ longest_head → length s < longest_head
    by_size n is other = grind arith

-- what was found, in the cases of the code
pub awaited : (s : List ℕ) (found : StreamStart) → IsStart s found → (found ≡ Partial) ⊎ (found ≡ Crowded) → AwaitsHead s × (length s < longest_head)
awaited s found start is = ⊎_elim (λ e. subst (IsStart s) e start) (λ e. absurd (subst (IsStart s) e start)) is
