-- A page's path along a handle's, read off their texts.
use Rattle.std.proofs.Common.{ℕ, zero, suc, Bool, true, false, not, ◌&&◌, ◌==◌, List, [], ◌∷◌, ◌++◌, ◌+◌, ◌-◌, ◌<◌, Option, Some, length, take, map, append_assoc, length-append, refl, sym, ◌∙◌, ap, subst, ◌≡◌, ◌≢◌, arith, Bor}
use Rattle.std.proofs.lemmas.Bool.Decides.{nat_tests}
use Rattle.std.proofs.lemmas.List.{append-nil, append_cancel_left, map-append}
use Rattle.std.proofs.lemmas.List.Concat.{flat_map-append}
use Rattle.std.proofs.lemmas.Iterator.{YieldsList}
use Rattle.std.specs.Iterator.{AlwaysYields, Yields}
use Rattle.sp_base.specs.Paths.{has_slash, mangled_segs, mangled_seg}
use Rattle.sp_base.specs.PathTexts.{lack_slashes, spelling_of}
use Rattle.sp_base.proofs.BoolLemmas.{and_second, or_second}
use Rattle.cover_rules.specs.declared.page.PageKey.{PageKey}
use Rattle.cover_rules.specs.declared.walk.Rest.{Rest}
use Rattle.cover_rules.specs.declared.walk.Rest.TheVariants.{Folder, File}
use Rattle.cover_rules.specs.Walk.{Lacks, Leaves, LeavesNext, left_text, page_spelling}

-- a text without the second part of a prefix after the first lacks the prefix
pub not_after : (text mark back rest more seg : List ℕ) → text ≡ mark ++ rest → mark ++ back ≡ seg → ((r : List ℕ) → rest ≢ back ++ r) → text ≡ seg ++ more → ⊥
not_after text mark back rest more seg e parts none is =
    none more (append_cancel_left mark rest (back ++ more) (sym e ∙ is ∙ ap (λ (s : List ℕ). s ++ more) (sym parts) ∙ append_assoc mark back more))

-- a text that goes on with a slash begins with what has none only before that slash
before_slash : (seg text file more : List ℕ) → has_slash seg ≡ false → text ++ 47 ∷ file ≡ seg ++ more → (rest : List ℕ) × (text ≡ seg ++ rest)
before_slash [] text file more h e = (text, refl)
before_slash (b ∷ seg) [] file more h e = let first : 47 ≡ b = cc (e) in absurd (grind (arith, nat_tests))
before_slash (b ∷ seg) (x ∷ text) file more h e =
    let first : x ≡ b = cc (e) in
    let next = before_slash seg text file more (or_second (b == 47) (has_slash seg) h) (cc (e)) in
    (next.0, λ i. first i ∷ next.1 i)

-- no next segment, by where the page's path has come
pub folder_ends : (rest : Rest) (text : Bor (List ℕ)) (file seg more : List ℕ) → rest ≡ Folder text → length text.now ≡ 0 → ((r : List ℕ) → file ≢ seg ++ r) → left_text file rest ≡ 47 ∷ seg ++ more → ⊥
folder_ends rest text file seg more is empty none e =
    ends_at text.now file seg more empty none (ap (left_text file) (sym is) ∙ e) where
      ends_at : (text file seg more : List ℕ) → length text ≡ 0 → ((r : List ℕ) → file ≢ seg ++ r) → text ++ 47 ∷ file ≡ 47 ∷ seg ++ more → ⊥
      ends_at [] file seg more empty none e = none more (cc (e))
      ends_at (b ∷ text) file seg more empty none e = absurd (omega arith)

pub folder_differs : (rest : Rest) (text : Bor (List ℕ)) (file seg more : List ℕ) → rest ≡ Folder text → 0 < length text.now → has_slash seg ≡ false → ((r : List ℕ) → text.now ≢ 47 ∷ seg ++ r) → left_text file rest ≡ 47 ∷ seg ++ more → ⊥
folder_differs rest text file seg more is some lacks none e =
    differs_at text.now file seg more some lacks none (ap (left_text file) (sym is) ∙ e) where
      differs_at : (text file seg more : List ℕ) → 0 < length text → has_slash seg ≡ false → ((r : List ℕ) → text ≢ 47 ∷ seg ++ r) → text ++ 47 ∷ file ≡ 47 ∷ seg ++ more → ⊥
      differs_at [] file seg more some lacks none e = absurd (omega arith)
      differs_at (b ∷ text) file seg more some lacks none e =
          let first : b ≡ 47 = cc (e) in
          let next = before_slash seg text file more lacks (cc (e)) in
          none next.0 (λ i. first i ∷ next.1 i)

-- a step along the handle
pub leaves_next : (key : PageKey) (prefix beginning : List ℕ) (rest more : Rest) → 0 < length beginning → Leaves key prefix rest → LeavesNext key.file beginning rest more → Leaves key (prefix ++ beginning) more
leaves_next key prefix beginning (Folder text) (Folder more) some h n = h ∙ ap (λ (t : List ℕ). prefix ++ t) n ∙ sym (append_assoc prefix beginning more.now)
leaves_next key prefix beginning (Folder text) (File more) some h n =
    let folder : spelling_of key.folder ≡ prefix = h ∙ ap (λ (t : List ℕ). prefix ++ t) n.0 ∙ append-nil prefix in (
      ap (λ (t : List ℕ). t ++ 47 ∷ key.file) folder ∙ ap (λ (t : List ℕ). prefix ++ t) n.1 ∙ sym (append_assoc prefix beginning more.now),
      omega (arith, ap length folder, length-append prefix beginning),
    )
leaves_next key prefix beginning (File text) (Folder more) some h n = absurd n
leaves_next key prefix beginning (File text) (File more) some h n =
    (h.0 ∙ ap (λ (t : List ℕ). prefix ++ t) n ∙ sym (append_assoc prefix beginning more.now), omega (arith, h.1, length-append prefix beginning))

pub whole : (key : PageKey) (prefix : List ℕ) (rest : Rest) → Leaves key prefix rest → page_spelling key ≡ prefix ++ left_text key.file rest
whole key prefix (Folder text) h = ap (λ (t : List ℕ). t ++ 47 ∷ key.file) h ∙ append_assoc prefix text.now (47 ∷ key.file)
whole key prefix (File text) h = h.0

-- the spelling of the segments so far, and of one more
spelled_more : (segs : List (List ℕ)) (seg : List ℕ) (later : List (List ℕ)) → spelling_of (mangled_segs (segs ++ seg ∷ later)) ≡ spelling_of (mangled_segs segs) ++ (47 ∷ mangled_seg seg ++ spelling_of (mangled_segs later))
spelled_more segs seg later = ap spelling_of (map-append mangled_seg segs (seg ∷ later)) ∙ flat_map-append (λ s. 47 ∷ s) (mangled_segs segs) (mangled_segs (seg ∷ later))

pub along : (key : PageKey) (seen : List (Bor (List ℕ))) (seg : Bor (List ℕ)) (rest more : Rest) → Leaves key (spelling_of (mangled_segs (map (λ s. s.now) seen))) rest
    → LeavesNext key.file (47 ∷ mangled_seg seg.now) rest more → Leaves key (spelling_of (mangled_segs (map (λ s. s.now) (seen ++ seg ∷ [])))) more
along key seen seg rest more h n =
    let segs = map (λ s. s.now) seen in
    let spelling : spelling_of (mangled_segs segs) ++ 47 ∷ mangled_seg seg.now ≡ spelling_of (mangled_segs (map (λ s. s.now) (seen ++ seg ∷ []))) =
    ap (λ (t : List ℕ). spelling_of (mangled_segs segs) ++ 47 ∷ t) (sym (append-nil (mangled_seg seg.now))) ∙ sym (spelled_more segs seg.now []) ∙ ap (λ (all : List (List ℕ)). spelling_of (mangled_segs all)) (sym (map-append (λ s. s.now) seen (seg ∷ []))) in
    subst (λ (t : List ℕ). Leaves key t more) spelling (leaves_next key (spelling_of (mangled_segs segs)) (47 ∷ mangled_seg seg.now) rest more (omega arith) h n)

lacking_middle : (segs later : List (List ℕ)) (seg : List ℕ) → lack_slashes (segs ++ seg ∷ later) ≡ true → has_slash seg ≡ false
lacking_middle [] later seg h = first_lacks (has_slash seg) (lack_slashes later) h where
  first_lacks : (a b : Bool) → (not a && b) ≡ true → a ≡ false
  first_lacks true b h = sym h
  first_lacks false b h = refl
lacking_middle (s ∷ segs) later seg h = lacking_middle segs later seg (and_second (not (has_slash s)) (lack_slashes (segs ++ seg ∷ later)) h)

-- and the page's path isn't the handle's any further
pub astray : (key : PageKey) (seen : List (Bor (List ℕ))) (seg : Bor (List ℕ)) (rest : Rest) (all later : List (List ℕ)) → lack_slashes all ≡ true → all ≡ map (λ s. s.now) (seen ++ seg ∷ []) ++ later
    → Leaves key (spelling_of (mangled_segs (map (λ s. s.now) seen))) rest → (has_slash seg.now ≡ false → (more : List ℕ) → left_text key.file rest ≢ 47 ∷ mangled_seg seg.now ++ more)
    → Lacks key (spelling_of (mangled_segs all))
astray key seen seg rest all later lacks is h none more e =
    let segs = map (λ s. s.now) seen in
    let parts : all ≡ segs ++ seg.now ∷ later = is ∙ ap (λ (l : List (List ℕ)). l ++ later) (map-append (λ s. s.now) seen (seg ∷ [])) ∙ append_assoc segs (seg.now ∷ []) later in
    let slashless = lacking_middle segs later seg.now (ap lack_slashes (sym parts) ∙ lacks) in
    let spelling = ap (λ (l : List (List ℕ)). spelling_of (mangled_segs l)) parts ∙ spelled_more segs seg.now later in
    none slashless (spelling_of (mangled_segs later) ++ more)
    (append_cancel_left (spelling_of (mangled_segs segs)) (left_text key.file rest) (47 ∷ mangled_seg seg.now ++ (spelling_of (mangled_segs later) ++ more))
    (sym (whole key (spelling_of (mangled_segs segs)) rest h) ∙ e ∙ ap (λ (t : List ℕ). t ++ more) spelling ∙ append_assoc (spelling_of (mangled_segs segs)) (47 ∷ mangled_seg seg.now ++ spelling_of (mangled_segs later)) more
    ∙ ap (λ (t : List ℕ). spelling_of (mangled_segs segs) ++ 47 ∷ t) (append_assoc (mangled_seg seg.now) (spelling_of (mangled_segs later)) more)))

-- the items of an iterator so far, and the next, begin its list
pub yields_next : {S A B : Type 0} (steps : S → Option A → S → Type 0) (v : A → B) (s t u : S) (xs : List A) (x : A) (all : List B)
    → AlwaysYields steps v s all → Yields steps s xs t → steps t (Some x) u → (later : List B) × (all ≡ map v (xs ++ x ∷ []) ++ later)
yields_next steps v s t u [] x [] runs was step = absurd (runs x u (subst (λ r. steps r (Some x) u) (sym was) step))
yields_next steps v s t u [] x (y ∷ all) runs was step = let first = (runs.1 x u (subst (λ r. steps r (Some x) u) (sym was) step)).0 in (all, λ i. sym first i ∷ all)
yields_next steps v s t u (z ∷ xs) x [] runs was step = absurd (runs z was.0 was.1)
yields_next steps v s t u (z ∷ xs) x (y ∷ all) runs was step =
    let first = runs.1 z was.0 was.1 in
    let next = yields_next steps v was.0 t u xs x all first.1 was.2 step in
    (next.0, λ i. sym first.0 i ∷ next.1 i)

pub next_of : {S A B : Type 0} {steps : S → Option A → S → Type 0} {v : A → B} {s : S} {all : List B} → YieldsList steps v s all → (xs : List A) (t : S) → Yields steps s xs t
    → (o : Option A) (u : S) (x : A) → o ≡ Some x → steps t o u → (later : List B) × (all ≡ map v (xs ++ x ∷ []) ++ later)
next_of {steps = steps} {v = v} {s = s} {all = all} list xs t was o u x is step = yields_next steps v s t u xs x all list.runs was (subst (λ r. steps t r u) is step)

pub file_differs : (rest : Rest) (text : Bor (List ℕ)) (file seg more : List ℕ) → rest ≡ File text → ((r : List ℕ) → text.now ≢ 47 ∷ seg ++ r) → left_text file rest ≡ 47 ∷ seg ++ more → ⊥
file_differs rest text file seg more is none e = none more (ap (left_text file) (sym is) ∙ e)

unslashed : (b : Bool) → (not b && true) ≡ true → b ≡ false
unslashed true h = sym h
unslashed false h = refl

pub mangled_lacks : (seg : List ℕ) → ((path : List (List ℕ)) → lack_slashes path ≡ true → lack_slashes (mangled_segs path) ≡ true) → has_slash seg ≡ false → has_slash (mangled_seg seg) ≡ false
mangled_lacks seg law h = unslashed (has_slash (mangled_seg seg)) (law (seg ∷ []) (ap (λ b. not b && true) h))

pub lacking_take : (segs : List (List ℕ)) (n : ℕ) → lack_slashes segs ≡ true → lack_slashes (take n segs) ≡ true
lacking_take [] zero h = refl
lacking_take [] (suc n) h = refl
lacking_take (seg ∷ segs) zero h = refl
lacking_take (seg ∷ segs) (suc n) h =
    ap (λ b. b && lack_slashes (take n segs)) (and_first (not (has_slash seg)) (lack_slashes segs) h) ∙ lacking_take segs n (and_second (not (has_slash seg)) (lack_slashes segs) h) where
      and_first : (a b : Bool) → (a && b) ≡ true → a ≡ true
      and_first true b e = refl
      and_first false b e = e
