-- A text with a piece that is too long for a segment spells no path.
use Rattle.std.proofs.Common.{◌≡◌, ◌≢◌, ◌<◌, ◌≤◌, ◌+◌, ⊎_elim, ◌∷◌, ◌++◌, [], List, ℕ, suc, Bool, true, false, cond, Ok, length, length-append, append_assoc, take, drop, get_or, refl, sym, ◌∙◌, ap, subst, arith}
use Rattle.std.specs.Prelude.{◌||◌}
use Rattle.std.specs.List.{list_all, list_any, onto_first}
use Rattle.std.proofs.lemmas.Bool.{and_parts, true≢false, false≢true, or_right}
use Rattle.std.proofs.lemmas.Bool.Decides.{nat_tests}
use Rattle.std.proofs.lemmas.List.{append-nil, length-take, take-append-drop, take_more, take-take}
use Rattle.sp_base.specs.Bytes.{is_slash}
use Rattle.sp_base.specs.Paths.{has_slash, is_empty, is_long, path_of, pieces, seg_ok}
use Rattle.sp_base.proofs.BoolLemmas.{or_first, or_second}
use Rattle.url_split.specs.Walk.{EndsInLong, IsBeforeLong, IsReached}
use Rattle.url_split.proofs.StartLemmas.{AreValid, read_is, short_segment}

-- ---- the piece that is too long

-- the first piece has at least n bytes
abbrev BeginsWith : ℕ → List (List ℕ) → Type 0
BeginsWith n [] = ⊥
BeginsWith n (piece ∷ parts) = n ≤ length piece

with_byte : (b n : ℕ) (parts : List (List ℕ)) → BeginsWith n parts → BeginsWith (suc n) (onto_first b parts)
with_byte b n [] h = absurd h
with_byte b n (piece ∷ parts) h = omega (arith, h)

still_one : (b : ℕ) (parts : List (List ℕ)) → BeginsWith 0 parts → BeginsWith 0 (onto_first b parts)
still_one b [] h = absurd h
still_one b (piece ∷ parts) h = omega arith

some_piece : (text : List ℕ) → BeginsWith 0 (pieces text)
some_piece [] = omega arith
some_piece (b ∷ text) =
    elim (is_slash b) as (λ t. BeginsWith 0 (cond t ([] ∷ pieces text) (onto_first b (pieces text)))) [
      | true ↦ omega arith
      | false ↦ still_one b (pieces text) (some_piece text)
    ]

-- bytes without a slash are in the first piece
first_bytes : (long more : List ℕ) → has_slash long ≡ false → BeginsWith (length long) (pieces (long ++ more))
first_bytes [] more none = some_piece more
first_bytes (b ∷ long) more none =
    subst (λ (t : Bool). BeginsWith (suc (length long)) (cond t ([] ∷ pieces (long ++ more)) (onto_first b (pieces (long ++ more))))) (sym (or_first (is_slash b) (has_slash long) none))
    (with_byte b (length long) (pieces (long ++ more)) (first_bytes long more (or_second (is_slash b) (has_slash long) none)))

longer : (seg piece : List ℕ) → is_long seg ≡ true → length seg ≤ length piece → is_long piece ≡ true
longer seg piece long le = grind (arith, nat_tests)

begins_long : (long : List ℕ) (parts : List (List ℕ)) → is_long long ≡ true → BeginsWith (length long) parts → list_any is_long parts ≡ true
begins_long long [] is h = absurd h
begins_long long (piece ∷ parts) is h = ap (λ t. t || list_any is_long parts) (longer long piece is h)

or_grown : (a c b : Bool) → (a ≡ true → c ≡ true) → (a || b) ≡ true → (c || b) ≡ true
or_grown true c b grows e = ap (λ t. t || b) (grows refl)
or_grown false c b grows e = or_right c b e

onto_long : (b : ℕ) (parts : List (List ℕ)) → list_any is_long parts ≡ true → list_any is_long (onto_first b parts) ≡ true
onto_long b [] h = absurd (false≢true h)
onto_long b (piece ∷ parts) h = or_grown (is_long piece) (is_long (b ∷ piece)) (list_any is_long parts) (λ is. longer piece (b ∷ piece) is (omega arith)) h

long_piece : (leading long more : List ℕ) → has_slash long ≡ false → is_long long ≡ true → list_any is_long (pieces (leading ++ (long ++ more))) ≡ true
long_piece [] long more one is = begins_long long (pieces (long ++ more)) is (first_bytes long more one)
long_piece (b ∷ leading) long more one is =
    elim (is_slash b) as (λ t. list_any is_long (cond t ([] ∷ pieces (leading ++ (long ++ more))) (onto_first b (pieces (leading ++ (long ++ more))))) ≡ true) [
      | true ↦ or_right (is_long []) (list_any is_long (pieces (leading ++ (long ++ more)))) (long_piece leading long more one is)
      | false ↦ onto_long b (pieces (leading ++ (long ++ more))) (long_piece leading long more one is)
    ]

-- ---- no path has one

not_both : (seg : List ℕ) → seg_ok seg ≡ true → is_long seg ≡ true → ⊥
not_both seg ok long = let short = short_segment seg ok in let is : 200 < length seg = grind (arith, nat_tests) in omega (arith, short, is)

no_long : (parts : List (List ℕ)) → list_all seg_ok parts ≡ true → list_any is_long parts ≡ true → ⊥
no_long [] all some = false≢true some
no_long (seg ∷ parts) all some =
    let ok = and_parts (seg_ok seg) (list_all seg_ok parts) all in
    elim (is_long seg) as (λ t. is_long seg ≡ t → (t || list_any is_long parts) ≡ true → ⊥) [
      | true ↦ λ is e. not_both seg ok.0 is
      | false ↦ λ is e. no_long parts ok.1 e
    ] refl some

many_bytes : (leading long more : List ℕ) → is_long long ≡ true → 200 < length (leading ++ (long ++ more))
many_bytes leading long more is =
    let size : 200 < length long = grind (arith, nat_tests) in
    omega (arith, size, length-append leading (long ++ more), length-append long more)

few_bytes : (rest : List ℕ) → is_empty rest ≡ true → length rest ≡ 0
few_bytes rest e = grind (arith, nat_tests)

no_path_read : AreValid → (leading long more : List ℕ) → has_slash long ≡ false → is_long long ≡ true → (path : List (List ℕ)) → path_of (leading ++ (long ++ more)) ≡ Ok path → ⊥
no_path_read valid [] [] more one is path reads = let size : 200 < 0 = grind (arith, nat_tests) in omega (arith, size)
no_path_read valid [] (b ∷ long) more one is path reads = true≢false (sym (read_is b (long ++ more) path reads).slash ∙ or_first (is_slash b) (has_slash long) one)
no_path_read valid (b ∷ leading) long more one is path reads =
    let rest = leading ++ (long ++ more) in
    ⊎_elim
    (λ (root : (is_empty rest ≡ true) × (path ≡ [])). omega (arith, few_bytes rest root.0, many_bytes leading long more is))
    (λ (same : path ≡ pieces rest).
    let all = (and_parts (list_all seg_ok path) _ (valid (b ∷ rest) path reads)).0 in
    no_long (pieces rest) (ap (list_all seg_ok) (sym same) ∙ all) (long_piece leading long more one is))
    (read_is b rest path reads).path_is

-- ---- where the walk back begins

prefix_of : (text start : List ℕ) (k : ℕ) → start ≡ take (length start) text → length start ≤ k → take k text ≡ start ++ drop (length start) (take k text)
prefix_of text start k begins le =
    sym (take-append-drop (length start) (take k text)) ∙ ap (λ t. t ++ drop (length start) (take k text)) (take-take (length start) k text le ∙ sym begins)

pub reached_shorter : (known : List (List ℕ) → Bool) (text start shorter : List ℕ) → AreValid → IsReached known text start → IsBeforeLong start shorter → IsReached known text shorter
reached_shorter known text start shorter valid reached before =
    let within : length shorter ≤ length start = omega (arith, ap length before.begins, length-take (length shorter) start) in
    let begins : shorter ≡ take (length shorter) text = before.begins ∙ ap (take (length shorter)) reached.begins ∙ take-take (length shorter) (length start) text within in
    record {
      begins = begins;
      all = λ k path lo hi leads.
          ⊎_elim
          (λ (whole : length shorter ≡ length start). reached.all k path (omega (arith, whole, lo)) hi leads)
          (λ (long : EndsInLong shorter).
          let more = drop (length shorter) (take k text) in
          let is : take k text ≡ long.leading ++ (long.long ++ more) = prefix_of text shorter k begins lo ∙ ap (λ t. t ++ more) long.text_is ∙ append_assoc long.leading long.long more in
          no_path_read valid long.leading long.long more long.one_piece long.too_long path (ap path_of (sym is) ∙ leads.reads))
          before.ends;
    }

-- ---- the walk to that place

-- a text's last n bytes have no slash
pub record EndsInPiece (text : List ℕ) (n : ℕ) : Type 0 where
  pub leading : List ℕ
  pub piece : List ℕ
  pub text_is : text ≡ leading ++ piece
  pub one_piece : has_slash piece ≡ false
  pub size : n ≡ length piece

pub ends_new : (text : List ℕ) → EndsInPiece text 0
ends_new text = record { leading = text; piece = []; text_is = sym (append-nil text); one_piece = refl; size = refl }

slashless : (piece : List ℕ) (b : ℕ) → has_slash piece ≡ false → is_slash b ≡ false → has_slash (piece ++ b ∷ []) ≡ false
slashless [] b none other = ap (λ t. t || false) other
slashless (c ∷ piece) b none other =
    ap (λ t. t || has_slash (piece ++ b ∷ [])) (or_first (is_slash c) (has_slash piece) none) ∙ slashless piece b (or_second (is_slash c) (has_slash piece) none) other

no_slash : (b : ℕ) → b ≢ 47 → is_slash b ≡ false
no_slash b other = grind (arith, nat_tests)

pub ends_more : (bytes : List ℕ) (at n : ℕ) → at < length bytes → get_or bytes at 0 ≢ 47 → EndsInPiece (take at bytes) n → EndsInPiece (take (at + 1) bytes) (n + 1)
ends_more bytes at n within other ends =
    let b = get_or bytes at 0 in
    record {
      leading = ends.leading;
      piece = ends.piece ++ b ∷ [];
      text_is = take_more bytes at 0 within ∙ ap (λ t. t ++ b ∷ []) ends.text_is ∙ append_assoc ends.leading ends.piece (b ∷ []);
      one_piece = slashless ends.piece b ends.one_piece (no_slash b other);
      size = omega (arith, ends.size, length-append ends.piece (b ∷ []));
    }
