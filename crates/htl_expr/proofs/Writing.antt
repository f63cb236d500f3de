-- Writing within a limit, one text after another.
use Rattle.std.proofs.Common.{◌≡◌, ◌<◌, ◌≤◌, ◌+◌, ◌-◌, ℕ, List, [], ◌++◌, length, sym, ap, ◌∙◌, arith, append-nil, append_assoc}
use Rattle.std.proofs.lemmas.List.{length-append}
use Rattle.htl_expr.specs.Writing.{Begins}

pub begins_same : (t : List ℕ) → Begins t t
begins_same t = record { rest = []; parts = sym (append-nil t) }

pub begins_more : (old mid more new : List ℕ) → Begins old mid → new ≡ mid ++ more → Begins old new
begins_more old mid more new b e = record { rest = b.rest ++ more; parts = e ∙ ap (λ (l : List ℕ). l ++ more) b.parts ∙ append_assoc old b.rest more }

pub begins_later : (old mid new : List ℕ) → Begins old mid → Begins mid new → Begins old new
begins_later old mid new b c = begins_more old mid c.rest new b c.parts

-- a longer text is still too long
pub longer : (most : ℕ) (old a b whole : List ℕ) → whole ≡ a ++ b → most < length (old ++ a) → most < length (old ++ whole)
longer most old a b whole e lt =
    let l : length (old ++ whole) ≡ length old + (length a + length b) = length-append old whole ∙ ap (λ (n : ℕ). length old + n) (ap length e ∙ length-append a b) in
    let m = length-append old a in
    omega (arith, l, m, lt)

-- a text that is longer when it is escaped doesn't fit
pub no_room : (most : ℕ) (old more : List ℕ) → length old ≤ most → most - length old < length more → most < length (old ++ more)
no_room most old more le lt = let l = length-append old more in omega (arith, l, le, lt)
