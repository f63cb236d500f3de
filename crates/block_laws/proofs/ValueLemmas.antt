-- The values of attributes.
use Rattle.std.proofs.Common.{◌≡◌, ◌⊎◌, inl, inr, ◌≤◌, ◌+◌, ℕ, Bool, true, false, cond, not, eqb, [], ◌∷◌, ◌++◌, take, drop, length, Some, None, refl, ap, sym, subst, ◌∙◌, arith, append-nil, append_assoc, length-append}
use Rattle.std.proofs.lemmas.Bool.{eqb-true}
use Rattle.std.proofs.lemmas.Bool.Decides.{nat_tests}
use Rattle.std.proofs.lemmas.List.{drop_all}
use Rattle.std.specs.List.{list_all}
use Rattle.sp_base.specs.Bytes.{begins_with_byte}
use Rattle.sp_base.specs.Texts.{Text}
use Rattle.htl_syntax.specs.Tokens.{is_blank, is_quote}
use Rattle.htl_blocks.specs.declared.byte_run.ByteRun.TheVariants as run
use Rattle.htl_blocks.specs.Markup.{ends_run, run_bytes}
use Rattle.htl_blocks.specs.Attributes.{ValueText, none, unquoted, quoted, key_len, quoted_len, start_trimmed, value_after, value_at_mark, value_read}
use Rattle.block_laws.specs.TagStatements.{is_key_byte, BeginsApart, AreBlanks, HasNoMark, HasValue}
use Rattle.block_laws.proofs.Scans.{cut_behind, Run, run_found, run_is}

not_not : (b : Bool) → b ≡ not (not b)
not_not true = refl
not_not false = refl

key_test : (c : ℕ) → ends_run run.Key c ≡ not (is_key_byte c)
key_test c = not_not (ends_run run.Key c)

pub key_found : (t : Text) → Run is_key_byte (key_len t) t
unfolding run_bytes
key_found t = run_found (ends_run run.Key) is_key_byte key_test t

pub key_len_is : (name later : Text) → list_all is_key_byte name ≡ true → BeginsApart is_key_byte later → key_len (name ++ later) ≡ length name
unfolding run_bytes
key_len_is name later all stops = run_is (ends_run run.Key) is_key_byte key_test name later all stops

blank_test : (c : ℕ) → ends_run run.Blanks c ≡ not (is_blank c)
blank_test c = refl

blanks_found : (t : Text) → Run is_blank (run_bytes run.Blanks t) t
unfolding run_bytes
blanks_found t = run_found (ends_run run.Blanks) is_blank blank_test t

blanks_len_is : (blanks later : Text) → AreBlanks blanks → BeginsApart is_blank later → run_bytes run.Blanks (blanks ++ later) ≡ length blanks
unfolding run_bytes
blanks_len_is blanks later all stops = run_is (ends_run run.Blanks) is_blank blank_test blanks later all stops

start_is : (blanks later : Text) → AreBlanks blanks → BeginsApart is_blank later → start_trimmed (blanks ++ later) ≡ later
start_is blanks later all stops = (cut_behind blanks later (blanks ++ later) (run_bytes run.Blanks (blanks ++ later)) refl (blanks_len_is blanks later all stops)).1

-- a text without the blanks at its beginning
record Trimmed (t : Text) : Type 0 where
  blanks : Text
  later : Text
  whole : t ≡ blanks ++ later
  all : AreBlanks blanks
  left : start_trimmed t ≡ later

trimmed : (t : Text) → Trimmed t
trimmed t = let x = blanks_found t in record { blanks = x.run; later = x.later; whole = x.whole; all = x.all; left = (cut_behind x.run x.later t (run_bytes run.Blanks t) x.whole x.len).1 }

abbrev is_other : ℕ → ℕ → Bool
is_other mark c = not (eqb c mark)

mark_test : (mark c : ℕ) → ends_run (run.Quoted mark) c ≡ not (is_other mark c)
mark_test mark c = not_not (eqb c mark)

quoted_found : (mark : ℕ) (t : Text) → Run (is_other mark) (quoted_len mark t) t
unfolding run_bytes
quoted_found mark t = run_found (ends_run (run.Quoted mark)) (is_other mark) (mark_test mark) t

quoted_len_is : (mark : ℕ) (v later : Text) → HasNoMark mark v → BeginsApart (is_other mark) later → quoted_len mark (v ++ later) ≡ length v
unfolding run_bytes
quoted_len_is mark v later all stops = run_is (ends_run (run.Quoted mark)) (is_other mark) (mark_test mark) v later all stops

same_mark : (mark : ℕ) → not (eqb mark mark) ≡ false
same_mark mark = grind (arith, nat_tests)

is_mark : (c mark : ℕ) → not (eqb c mark) ≡ false → c ≡ mark
is_mark c mark e = go (eqb c mark) refl e
  where
    go : (b : Bool) → eqb c mark ≡ b → not b ≡ false → c ≡ mark
    go true is f = eqb-true c mark is
    go false is f = absurd cc

mark_no_blank : (mark : ℕ) → is_quote mark ≡ true → is_blank mark ≡ false
mark_no_blank mark e = grind (arith, nat_tests)

-- ---- in quotes

abbrev quoted_is : ℕ → Text → ValueText × Text
quoted_is mark u = (quoted (take (quoted_len mark u) u), drop (quoted_len mark u + 1) u)

closed_is : (mark : ℕ) (v later : Text) → HasNoMark mark v → quoted_is mark (v ++ mark ∷ later) ≡ (quoted v, later)
closed_is mark v later all =
    let len = quoted_len_is mark v (mark ∷ later) all (same_mark mark) in
    let one = cut_behind v (mark ∷ later) (v ++ mark ∷ later) (quoted_len mark (v ++ mark ∷ later)) refl len in
    let size = length-append v (mark ∷ []) in
    let more : quoted_len mark (v ++ mark ∷ later) + 1 ≡ length (v ++ mark ∷ []) = omega (arith, len, size) in
    let two = cut_behind (v ++ mark ∷ []) later (v ++ mark ∷ later) (quoted_len mark (v ++ mark ∷ later) + 1) (sym (append_assoc v (mark ∷ []) later)) more in
    ap (λ (x : Text). (quoted x, drop (quoted_len mark (v ++ mark ∷ later) + 1) (v ++ mark ∷ later))) one.0 ∙ ap (λ (x : Text). (quoted v, x)) two.1

open_is : (mark : ℕ) (v : Text) → HasNoMark mark v → quoted_is mark v ≡ (quoted v, [])
open_is mark v all =
    let whole = append-nil v in
    let len : quoted_len mark v ≡ length v = ap (quoted_len mark) (sym whole) ∙ quoted_len_is mark v [] all tt in
    let one = cut_behind v [] v (quoted_len mark v) (sym whole) len in
    let two = drop_all (quoted_len mark v + 1) v (omega (arith, len)) in
    ap (λ (x : Text). (quoted x, drop (quoted_len mark v + 1) v)) one.0 ∙ ap (λ (x : Text). (quoted v, x)) two

-- the same, the other way round
quoted_says : (mark : ℕ) (u : Text) → ((v later : Text) × HasNoMark mark v × (u ≡ v ++ mark ∷ later) × (quoted_is mark u ≡ (quoted v, later))) ⊎ (HasNoMark mark u × (quoted_is mark u ≡ (quoted u, [])))
quoted_says mark u = go (quoted_found mark u)
  where
    ends_so : (v later : Text) → u ≡ v ++ later → HasNoMark mark v → BeginsApart (is_other mark) later → ((v later : Text) × HasNoMark mark v × (u ≡ v ++ mark ∷ later) × (quoted_is mark u ≡ (quoted v, later))) ⊎ (HasNoMark mark u × (quoted_is mark u ≡ (quoted u, [])))
    ends_so v [] whole all stops =
        let same : u ≡ v = whole ∙ append-nil v in
        let none : HasNoMark mark u = ap (list_all (is_other mark)) same ∙ all in
        inr (none, open_is mark u none)
    ends_so v (c ∷ later) whole all stops =
        let same : u ≡ v ++ mark ∷ later = whole ∙ ap (λ (d : ℕ). v ++ d ∷ later) (is_mark c mark stops) in
        inl (v, later, all, same, ap (quoted_is mark) same ∙ closed_is mark v later all)

    go : Run (is_other mark) (quoted_len mark u) u → ((v later : Text) × HasNoMark mark v × (u ≡ v ++ mark ∷ later) × (quoted_is mark u ≡ (quoted v, later))) ⊎ (HasNoMark mark u × (quoted_is mark u ≡ (quoted u, [])))
    go x = ends_so x.run x.later x.whole x.all x.stops

-- ---- after a name

byte_first : (c : ℕ) (t : Text) → begins_with_byte c t ≡ true → (more : Text) × (t ≡ c ∷ more)
unfolding begins_with_byte
byte_first c [] e = absurd cc
byte_first c (d ∷ t) e = (t, ap (λ (b : ℕ). b ∷ t) (eqb-true d c e))

first_byte : (c : ℕ) (t : Text) → begins_with_byte c (c ∷ t) ≡ true
unfolding begins_with_byte
first_byte c t = grind (arith, nat_tests)

with_equals : (before more : Text) → AreBlanks before → value_read (before ++ 61 ∷ more) ≡ value_after (start_trimmed more)
unfolding value_read
with_equals before more all =
    let left = start_is before (61 ∷ more) all refl in
    let is = first_byte 61 more in
    rw left (rw is refl)

without_equals : (t : Text) → ((blanks more : Text) → AreBlanks blanks → t ≡ blanks ++ 61 ∷ more → ⊥) → value_read t ≡ (none, t)
unfolding value_read
without_equals t apart = go (begins_with_byte 61 (start_trimmed t)) refl
  where
    x : Trimmed t
    x = trimmed t

    go : (b : Bool) → begins_with_byte 61 (start_trimmed t) ≡ b → cond b (value_after (start_trimmed (drop 1 (start_trimmed t)))) (none, t) ≡ (none, t)
    go true e = let f = byte_first 61 x.later (ap (begins_with_byte 61) (sym x.left) ∙ e) in absurd (apart x.blanks f.0 x.all (x.whole ∙ ap (λ (u : Text). x.blanks ++ u) f.1))
    go false e = refl

after_quote : (mark : ℕ) (u : Text) → is_quote mark ≡ true → value_after (mark ∷ u) ≡ quoted_is mark u
after_quote mark u e = rw e refl

pub value_is : (t : Text) (value : ValueText) (later : Text) → HasValue t value later → value_read t ≡ (value, later)
value_is t value later (HasValue.Without apart is end) = without_equals t apart ∙ ap (λ (v : ValueText). (v, t)) (sym is) ∙ ap (λ (u : Text). (value, u)) (sym end)
value_is t value later (HasValue.Quoted before after v mark one two quote all whole is) =
    ap value_read whole ∙ with_equals before (after ++ mark ∷ (v ++ mark ∷ later)) one ∙ ap value_after (start_is after (mark ∷ (v ++ mark ∷ later)) two (mark_no_blank mark quote))
    ∙ after_quote mark (v ++ mark ∷ later) quote ∙ closed_is mark v later all ∙ ap (λ (w : ValueText). (w, later)) (sym is)
value_is t value later (HasValue.Unclosed before after v mark one two quote all whole is end) =
    ap value_read whole ∙ with_equals before (after ++ mark ∷ v) one ∙ ap value_after (start_is after (mark ∷ v) two (mark_no_blank mark quote))
    ∙ after_quote mark v quote ∙ open_is mark v all ∙ ap (λ (w : ValueText). (w, [])) (sym is) ∙ ap (λ (u : Text). (value, u)) (sym end)

-- a value that was read stands there, or isn't in quotes
abbrev pub Reads : Text → ValueText × Text → Type 0
Reads t x = (x.0 ≡ unquoted) ⊎ HasValue t x.0 x.1

after_equals : (t before more : Text) → AreBlanks before → t ≡ before ++ 61 ∷ more → Reads t (value_after (start_trimmed more))
after_equals t before more all whole = go (trimmed more)
  where
    in_quotes : (after u : Text) (mark : ℕ) → AreBlanks after → more ≡ after ++ mark ∷ u → is_quote mark ≡ true → Reads t (quoted_is mark u)
    in_quotes after u mark two is quote = says (quoted_says mark u)
      where
        says : ((v later : Text) × HasNoMark mark v × (u ≡ v ++ mark ∷ later) × (quoted_is mark u ≡ (quoted v, later))) ⊎ (HasNoMark mark u × (quoted_is mark u ≡ (quoted u, []))) → Reads t (quoted_is mark u)
        says (inl x) =
            let there : t ≡ before ++ 61 ∷ (after ++ mark ∷ (x.0 ++ mark ∷ x.1)) = whole ∙ ap (λ (w : Text). before ++ 61 ∷ w) (is ∙ ap (λ (w : Text). after ++ mark ∷ w) x.3) in
            subst (Reads t) (sym x.4) (inr (HasValue.Quoted before after x.0 mark all two quote x.2 there refl))
        says (inr x) =
            let there : t ≡ before ++ 61 ∷ (after ++ mark ∷ u) = whole ∙ ap (λ (w : Text). before ++ 61 ∷ w) is in
            subst (Reads t) (sym x.1) (inr (HasValue.Unclosed before after u mark all two quote x.0 there refl refl))

    by_first : (after later : Text) → AreBlanks after → more ≡ after ++ later → Reads t (value_after later)
    by_first after [] two is = inl refl
    by_first after (c ∷ u) two is = quote (is_quote c) refl
      where
        quote : (b : Bool) → is_quote c ≡ b → Reads t (value_at_mark (cond b (Some c) None) (c ∷ u))
        quote true e = in_quotes after u c two is e
        quote false e = inl refl

    go : Trimmed more → Reads t (value_after (start_trimmed more))
    go x = rw x.left (by_first x.blanks x.later x.all x.whole)

pub value_found : (t : Text) → Reads t (value_read t)
unfolding value_read
value_found t = go (begins_with_byte 61 (start_trimmed t)) refl
  where
    x : Trimmed t
    x = trimmed t

    go : (b : Bool) → begins_with_byte 61 (start_trimmed t) ≡ b → Reads t (cond b (value_after (start_trimmed (drop 1 (start_trimmed t)))) (none, t))
    go true e =
        let f = byte_first 61 x.later (ap (begins_with_byte 61) (sym x.left) ∙ e) in
        let left : drop 1 (start_trimmed t) ≡ f.0 = ap (drop 1) (x.left ∙ f.1) in
        rw left (after_equals t x.blanks f.0 x.all (x.whole ∙ ap (λ (u : Text). x.blanks ++ u) f.1))
    go false e =
        inr (HasValue.Without (λ blanks more all is.
        let there : begins_with_byte 61 (start_trimmed t) ≡ true = ap (λ (u : Text). begins_with_byte 61 (start_trimmed u)) is ∙ ap (begins_with_byte 61) (start_is blanks (61 ∷ more) all refl) ∙ first_byte 61 more in absurd cc) refl refl)

-- what follows a value is no longer than what it stands in
pub value_shorter : (t : Text) (value : ValueText) (later : Text) → HasValue t value later → length later ≤ length t
value_shorter t value later (HasValue.Without apart is end) = let same = ap length end in omega (arith, same)
value_shorter t value later (HasValue.Quoted before after v mark one two quote all whole is) =
    let a = ap length whole ∙ length-append before (61 ∷ (after ++ mark ∷ (v ++ mark ∷ later))) in
    let b = length-append after (mark ∷ (v ++ mark ∷ later)) in
    let d = length-append v (mark ∷ later) in
    omega (arith, a, b, d)
value_shorter t value later (HasValue.Unclosed before after v mark one two quote all whole is end) = let same = ap length end in omega (arith, same)
