-- Two readings of which the second may nest one level more: it gives what the first gives, and passes a byte that nests too deep for the first.
use Rattle.std.proofs.Common.{◌≡◌, ℕ, ◌<◌, ◌≤◌, Bool, true, false, cond, List, [], ◌∷◌, drop, length, Result, Ok, Err, refl, sym, subst, arith}
use Rattle.sp_base.specs.Outcomes.{◌>>=◌}
use Rattle.sp_base.proofs.ListLemmas.{drop_short}
use Rattle.htl_syntax.specs.declared.stop.ExprStop.{ExprStop}
use Rattle.htl_syntax.specs.declared.stop.ExprStop.TheVariants.{NoMemory, Unexpected, TooDeep}
use Rattle.htl_syntax.specs.Tokens.{blanks_skipped}
use Rattle.htl_syntax.proofs.TokensAgain.{skip-short}

-- how many bytes are left where reading stopped
abbrev pub left_of : ExprStop → ℕ
left_of NoMemory = 0
left_of (Unexpected left) = left
left_of (TooDeep left) = left

-- at most n bytes are left, by how many are left after what is read
abbrev pub Within : {A : Type 0} → (A → ℕ) → ℕ → Result A ExprStop → Type 0
Within size n (Ok x) = size x ≤ n
Within size n (Err d) = left_of d ≤ n

-- fewer are
abbrev pub Beyond : {A : Type 0} → (A → ℕ) → ℕ → Result A ExprStop → Type 0
Beyond size n (Ok x) = size x < n
Beyond size n (Err d) = left_of d < n

abbrev pub Further : {A : Type 0} → (A → ℕ) → Result A ExprStop → Result A ExprStop → Type 0
Further {A = A} size (Ok x) p = ◌≡◌ {A = Result A ExprStop} p (Ok x)
Further {A = A} size (Err NoMemory) p = ◌≡◌ {A = Result A ExprStop} p (Err NoMemory)
Further {A = A} size (Err (Unexpected left)) p = ◌≡◌ {A = Result A ExprStop} p (Err (Unexpected left))
Further size (Err (TooDeep left)) p = Beyond size left p

-- and it reads forward
pub record Goes {A : Type 0} (size : A → ℕ) (n : ℕ) (o p : Result A ExprStop) : Type 0 where
  pub further : Further size o p
  pub within : Within size n p

within_less : {A : Type 0} (size : A → ℕ) (m n : ℕ) (o : Result A ExprStop) → Within size m o → m ≤ n → Within size n o
within_less size m n (Ok x) w le = omega (arith, w, le)
within_less size m n (Err d) w le = omega (arith, w, le)

beyond_less : {A : Type 0} (size : A → ℕ) (m n : ℕ) (o : Result A ExprStop) → Within size m o → m < n → Beyond size n o
beyond_less size m n (Ok x) w lt = omega (arith, w, lt)
beyond_less size m n (Err d) w lt = omega (arith, w, lt)

within_bind : {A B : Type 0} (size : A → ℕ) (end : B → ℕ) (n : ℕ) (p : Result A ExprStop) (k : A → Result B ExprStop) → Within size n p → ((x : A) → Within end (size x) (k x)) → Within end n (p >>= k)
within_bind size end n (Ok x) k w next = within_less end (size x) n (k x) (next x) w
within_bind size end n (Err d) k w next = w

beyond_bind : {A B : Type 0} (size : A → ℕ) (end : B → ℕ) (n : ℕ) (p : Result A ExprStop) (k : A → Result B ExprStop) → Beyond size n p → ((x : A) → Within end (size x) (k x)) → Beyond end n (p >>= k)
beyond_bind size end n (Ok x) k w next = beyond_less end (size x) n (k x) (next x) w
beyond_bind size end n (Err d) k w next = w

further_bind : {A B : Type 0} (size : A → ℕ) (end : B → ℕ) (o p : Result A ExprStop) (h k : A → Result B ExprStop) → Further size o p → ((x : A) → Goes end (size x) (h x) (k x)) → Further end (o >>= h) (p >>= k)
further_bind size end (Ok x) p h k f next = subst (λ q. Further end (h x) (q >>= k)) (sym f) (next x).further
further_bind size end (Err NoMemory) p h k f next = rw f refl
further_bind size end (Err (Unexpected left)) p h k f next = rw f refl
further_bind size end (Err (TooDeep left)) p h k f next = beyond_bind size end left p k f (λ x. (next x).within)

-- one step after another
pub goes_bind : {A B : Type 0} (size : A → ℕ) (end : B → ℕ) (n : ℕ) (o p : Result A ExprStop) (h k : A → Result B ExprStop) → Goes size n o p → ((x : A) → Goes end (size x) (h x) (k x)) → Goes end n (o >>= h) (p >>= k)
goes_bind size end n o p h k g next = record { further = further_bind size end o p h k g.further next; within = within_bind size end n p k g.within (λ x. (next x).within) }

pub goes_if : {A : Type 0} (size : A → ℕ) (n : ℕ) (b : Bool) (o p u v : Result A ExprStop) → (b ≡ true → Goes size n o p) → (b ≡ false → Goes size n u v) → Goes size n (cond b o u) (cond b p v)
goes_if size n true o p u v first second = first refl
goes_if size n false o p u v first second = second refl

pub goes_ok : {A : Type 0} (size : A → ℕ) (n : ℕ) (x : A) → size x ≤ n → Goes size n (Ok x) (Ok x)
goes_ok size n x le = record { further = refl; within = le }

pub goes_refuse : {A : Type 0} (size : A → ℕ) (n m : ℕ) → m ≤ n → Goes {A = A} size n (Err (Unexpected m)) (Err (Unexpected m))
goes_refuse size n m le = record { further = refl; within = le }

-- a byte that may nest only with one level more
pub goes_deep : {A : Type 0} (size : A → ℕ) (m n : ℕ) (p : Result A ExprStop) → Within size m p → m < n → Goes size n (Err (TooDeep n)) p
goes_deep size m n p w lt = record { further = beyond_less size m n p w lt; within = within_less size m n p w (omega (arith, lt)) }

pub goes_more : {A : Type 0} (size : A → ℕ) (m n : ℕ) (o p : Result A ExprStop) → m ≤ n → Goes size m o p → Goes size n o p
goes_more size m n o p le g = record { further = g.further; within = within_less size m n p g.within le }

-- ---- how many bytes are left

abbrev pub remainder : {A : Type 0} → A × List ℕ → ℕ
remainder x = length x.1

abbrev pub bytes : List ℕ → ℕ
bytes t = length t

pub skip_drop-short : (k : ℕ) (t : List ℕ) → length (blanks_skipped (drop k t)) ≤ length t
skip_drop-short k t = omega (arith, skip-short (drop k t), drop_short k t)

pub skip_drop-less : (t : List ℕ) → 0 < length t → length (blanks_skipped (drop 1 t)) < length t
skip_drop-less [] some = absurd (omega (arith, some))
skip_drop-less (c ∷ t) some = omega (arith, skip-short t)
