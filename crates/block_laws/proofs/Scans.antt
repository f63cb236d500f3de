-- The first byte of which something holds, and runs of bytes.
use Rattle.std.proofs.Common.{◌≡◌, ◌+◌, ℕ, suc, Bool, true, false, cond, not, [], ◌∷◌, ◌++◌, take, drop, length, Option, Some, None, refl, ap, sym, ◌∙◌, arith, append-nil}
use Rattle.std.proofs.lemmas.Bool.{and_parts}
use Rattle.std.proofs.Math.Seq.{take-append_seam, drop-append_seam}
use Rattle.std.specs.List.{list_all, position_or_len}
use Rattle.sp_base.specs.Texts.{Text}
use Rattle.htl_blocks.specs.declared.quoting.Quoting.{Quoting}
use Rattle.htl_blocks.specs.Markup.{markup_quoting_step}
use Rattle.block_laws.specs.PartKinds.{quoting_after, HoldsOfNone}
use Rattle.block_laws.specs.TagStatements.{BeginsApart}

-- ---- a text in two

-- a text cut behind its first bytes
pub cut_behind : (w later t : Text) (n : ℕ) → t ≡ w ++ later → n ≡ length w → (take n t ≡ w) × (drop n t ≡ later)
cut_behind w later t n whole len =
    (ap (take n) whole ∙ ap (λ (k : ℕ). take k (w ++ later)) len ∙ take-append_seam w later, ap (drop n) whole ∙ ap (λ (k : ℕ). drop k (w ++ later)) len ∙ drop-append_seam w later)

-- ---- the first byte of which something holds

-- its place, where the text begins at place n
abbrev pub scan : (Quoting → ℕ → Text → Bool) → Quoting → ℕ → Text → Option ℕ
scan test quoting n [] = None
scan test quoting n (c ∷ t) = cond (test quoting c t) (Some n) (scan test (markup_quoting_step quoting c) (n + 1) t)

-- the byte, with those before it and what follows it
pub record FirstIs (test : Quoting → ℕ → Text → Bool) (quoting : Quoting) (n : ℕ) (t : Text) (m : ℕ) : Type 0 where
  pub before : Text
  pub byte : ℕ
  pub later : Text
  pub whole : t ≡ before ++ byte ∷ later
  pub place : m ≡ n + length before
  pub none : HoldsOfNone test quoting before (byte ∷ later)
  pub holds : test (quoting_after quoting before) byte later ≡ true

abbrev pub Finds : (Quoting → ℕ → Text → Bool) → Quoting → ℕ → Text → Option ℕ → Type 0
Finds test quoting n t None = HoldsOfNone test quoting t []
Finds test quoting n t (Some m) = FirstIs test quoting n t m

pub scan_finds : (test : Quoting → ℕ → Text → Bool) (quoting : Quoting) (n : ℕ) (t : Text) → Finds test quoting n t (scan test quoting n t)
scan_finds test quoting n [] = tt
scan_finds test quoting n (c ∷ t) = go (test quoting c t) refl (scan test (markup_quoting_step quoting c) (n + 1) t) (scan_finds test (markup_quoting_step quoting c) (n + 1) t)
  where
    go : (b : Bool) → test quoting c t ≡ b → (o : Option ℕ) → Finds test (markup_quoting_step quoting c) (n + 1) t o → Finds test quoting n (c ∷ t) (cond b (Some n) o)
    go true e o x = let here : n ≡ n + 0 = omega arith in record { before = []; byte = c; later = t; whole = refl; place = here; none = tt; holds = e }
    go false e None x = (ap (test quoting c) (append-nil t) ∙ e, x)
    go false e (Some m) x =
        let at = x.place in
        let there : m ≡ n + suc (length x.before) = omega (arith, at) in
        record { before = c ∷ x.before; byte = x.byte; later = x.later; whole = ap (λ (u : Text). c ∷ u) x.whole; place = there; none = (ap (test quoting c) (sym x.whole) ∙ e, x.none); holds = x.holds }

pub scan_is : (test : Quoting → ℕ → Text → Bool) (quoting : Quoting) (n : ℕ) (before : Text) (c : ℕ) (later : Text) → HoldsOfNone test quoting before (c ∷ later) → test (quoting_after quoting before) c later ≡ true
    → scan test quoting n (before ++ c ∷ later) ≡ Some (n + length before)
scan_is test quoting n [] c later none holds = let here : n ≡ n + 0 = omega arith in rw holds (ap Some here)
scan_is test quoting n (d ∷ before) c later none holds =
    let there : (n + 1) + length before ≡ n + suc (length before) = omega arith in
    rw none.0 (scan_is test (markup_quoting_step quoting d) (n + 1) before c later none.1 holds ∙ ap Some there)

pub scan_none : (test : Quoting → ℕ → Text → Bool) (quoting : Quoting) (n : ℕ) (t : Text) → HoldsOfNone test quoting t [] → scan test quoting n t ≡ None
scan_none test quoting n [] none = refl
scan_none test quoting n (c ∷ t) none =
    let here : test quoting c t ≡ false = ap (test quoting c) (sym (append-nil t)) ∙ none.0 in
    rw here (scan_none test (markup_quoting_step quoting c) (n + 1) t none.1)

-- ---- runs

-- a run of good bytes at the beginning, of this length
pub record Run (good : ℕ → Bool) (n : ℕ) (t : Text) : Type 0 where
  pub run : Text
  pub later : Text
  pub whole : t ≡ run ++ later
  pub all : list_all good run ≡ true
  pub stops : BeginsApart good later
  pub len : n ≡ length run

pub run_found : (test good : ℕ → Bool) → ((c : ℕ) → test c ≡ not (good c)) → (t : Text) → Run good (position_or_len test t) t
run_found test good is [] = record { run = []; later = []; whole = refl; all = refl; stops = tt; len = refl }
run_found test good is (c ∷ t) = go (good c) refl (run_found test good is t)
  where
    go : (b : Bool) → good c ≡ b → Run good (position_or_len test t) t → Run good (position_or_len test (c ∷ t)) (c ∷ t)
    go true e x =
        let goes_on : test c ≡ false = is c ∙ ap not e in
        let len = x.len in
        let more : 1 + position_or_len test t ≡ suc (length x.run) = omega (arith, len) in
        record { run = c ∷ x.run; later = x.later; whole = ap (λ (u : Text). c ∷ u) x.whole; all = rw e x.all; stops = x.stops; len = rw goes_on more }
    go false e x = let ends : test c ≡ true = is c ∙ ap not e in record { run = []; later = c ∷ t; whole = refl; all = refl; stops = e; len = rw ends refl }

pub run_is : (test good : ℕ → Bool) → ((c : ℕ) → test c ≡ not (good c)) → (run later : Text) → list_all good run ≡ true → BeginsApart good later → position_or_len test (run ++ later) ≡ length run
run_is test good is [] [] all stops = refl
run_is test good is [] (c ∷ later) all stops = let ends : test c ≡ true = is c ∙ ap not stops in rw ends refl
run_is test good is (c ∷ run) later all stops =
    let both = and_parts (good c) (list_all good run) all in
    let goes_on : test c ≡ false = is c ∙ ap not both.0 in
    let ih = run_is test good is run later both.1 stops in
    let more : 1 + position_or_len test (run ++ later) ≡ suc (length run) = omega (arith, ih) in
    rw goes_on more
