-- The folders that an invalidation touches are those above its handle.
use Rattle.std.proofs.Common.{◌≡◌, ◌<◌, ◌≤◌, ◌↔◌, ◌+◌, ℕ, zero, suc, Bool, true, false, cond, List, [], ◌∷◌, ◌++◌, Option, Some, None, take, length, map, get_or, refl, ap, sym, ◌∙◌, arith}
use Rattle.std.specs.Prelude.{Contains, option_map, slice_get, take_while}
use Rattle.std.specs.List.{list_all, prefix_len}
use Rattle.std.proofs.lemmas.Bool.{and_parts, and_from}
use Rattle.sp_base.specs.Texts.{Segments}
use Rattle.sp_base.specs.Paths.{parent_of}
use Rattle.cover_rules.specs.Coverage.{handle_of, lineage, touched_of}
use Rattle.cover_rules.specs.Pages.{is_folder_segment}
use Rattle.cover_rules.specs.declared.invalidation.Invalidation.{Invalidation}
use Rattle.rule_laws.specs.Touched.{IsTouched}

-- ---- places of lists

map_at : {A B : Type 0} (f : A → B) (xs : List A) (k : ℕ) (y : B) → slice_get (map f xs) k ≡ Some y → (x : A) × (slice_get xs k ≡ Some x) × (y ≡ f x)
map_at f [] k y e = absurd cc
map_at f (x ∷ xs) zero y e = (x, refl, some_is (f x) y e)
  where
    some_is : {B : Type 0} (one other : B) → ◌≡◌ {A = Option B} (Some one) (Some other) → other ≡ one
    some_is one other g = cc
map_at f (x ∷ xs) (suc k) y e = map_at f xs k y e

at_map : {A B : Type 0} (f : A → B) (xs : List A) (k : ℕ) (x : A) → slice_get xs k ≡ Some x → slice_get (map f xs) k ≡ Some (f x)
at_map f [] k x e = absurd cc
at_map f (y ∷ xs) zero x e = ap (option_map f) e
at_map f (y ∷ xs) (suc k) x e = at_map f xs k x e

there_at : {A : Type 0} (xs : List A) (k : ℕ) (x : A) → slice_get xs k ≡ Some x → (k < length xs) × (get_or xs k x ≡ x)
there_at [] k x e = absurd cc
there_at (y ∷ xs) zero x e = (omega arith, some_is y x e)
  where
    some_is : {B : Type 0} (one other : B) → ◌≡◌ {A = Option B} (Some one) (Some other) → one ≡ other
    some_is one other g = cc
there_at (y ∷ xs) (suc k) x e = let ih = there_at xs k x e in let low = ih.0 in (omega (arith, low), ih.1)

at_there : {A : Type 0} (xs : List A) (k : ℕ) (x : A) → k < length xs → get_or xs k x ≡ x → slice_get xs k ≡ Some x
at_there [] k x low e = absurd (omega (arith, low))
at_there (y ∷ xs) zero x low e = ap Some e
at_there (y ∷ xs) (suc k) x low e = at_there xs k x (omega (arith, low)) e

-- ---- folders down a path

goes_on : (seg : List ℕ) (segs : Segments) → is_folder_segment seg ≡ true → take_while is_folder_segment (seg ∷ segs) ≡ seg ∷ take_while is_folder_segment segs
goes_on seg segs e = let n : 1 + prefix_len is_folder_segment segs ≡ suc (prefix_len is_folder_segment segs) = omega arith in rw (e, n) refl

ends_at : (seg : List ℕ) (segs : Segments) → is_folder_segment seg ≡ false → take_while is_folder_segment (seg ∷ segs) ≡ []
ends_at seg segs e = rw e refl

root_first : (segs : Segments) → slice_get (lineage segs) 0 ≡ Some []
root_first [] = refl
root_first (seg ∷ segs) = refl

abbrev down : ℕ → Segments → List Segments
down level segs = lineage (take_while is_folder_segment (take level segs))

-- a folder above is at the place of its length
above_at : (level : ℕ) (folder below : Segments) → length folder ≤ level → list_all is_folder_segment folder ≡ true → slice_get (down level (folder ++ below)) (length folder) ≡ Some folder
above_at level [] below low all = root_first (take_while is_folder_segment (take level below))
above_at zero (seg ∷ folder) below low all = absurd (omega (arith, low))
above_at (suc level) (seg ∷ folder) below low all =
    let both = and_parts (is_folder_segment seg) (list_all is_folder_segment folder) all in
    let ih = above_at level folder below (omega (arith, low)) both.1 in
    ap (λ (segs : Segments). slice_get (lineage segs) (suc (length folder))) (goes_on seg (take level (folder ++ below)) both.0)
    ∙ at_map (λ (path : Segments). seg ∷ path) (down level (folder ++ below)) (length folder) folder ih

-- what stands at a place is a folder above of that length
pub record IsAboveAt (level : ℕ) (segs : Segments) (k : ℕ) (folder : Segments) : Type 0 where
  pub below : Segments
  pub above : segs ≡ folder ++ below
  pub shallow : length folder ≤ level
  pub long : length folder ≡ k
  pub has_pages : list_all is_folder_segment folder ≡ true

some_nil : (folder : Segments) → ◌≡◌ {A = Option Segments} (Some []) (Some folder) → folder ≡ []
some_nil folder e = cc

root_above : (level : ℕ) (segs folder : Segments) → folder ≡ [] → IsAboveAt level segs 0 folder
root_above level segs folder e = record {
  below = segs;
  above = ap (λ (f : Segments). f ++ segs) (sym e);
  shallow = rw e (omega arith);
  long = ap length e;
  has_pages = ap (list_all is_folder_segment) e;
}

at_above : (level : ℕ) (segs : Segments) (k : ℕ) (folder : Segments) → slice_get (down level segs) k ≡ Some folder → IsAboveAt level segs k folder
at_above level segs zero folder e = root_above level segs folder (some_nil folder (sym (root_first (take_while is_folder_segment (take level segs))) ∙ e))
at_above zero segs (suc k) folder e = absurd cc
at_above (suc level) [] (suc k) folder e = absurd cc
at_above (suc level) (seg ∷ segs) (suc k) folder e = go (is_folder_segment seg) refl (λ g f. at_above level segs k g f)
  where
    go : (x : Bool) → is_folder_segment seg ≡ x → ((g : Segments) → slice_get (down level segs) k ≡ Some g → IsAboveAt level segs k g) → IsAboveAt (suc level) (seg ∷ segs) (suc k) folder
    go true is ih =
        let there = sym (ap (λ (s : Segments). slice_get (lineage s) (suc k)) (goes_on seg (take level segs) is)) ∙ e in
        let m = map_at (λ (path : Segments). seg ∷ path) (down level segs) k folder there in
        let a = ih m.0 m.1 in
        let low = a.shallow in
        let long = a.long in
        let size = ap length m.2 in
        record {
          below = a.below;
          above = ap (λ (s : Segments). seg ∷ s) a.above ∙ ap (λ (f : Segments). f ++ a.below) (sym m.2);
          shallow = omega (arith, size, low);
          long = omega (arith, size, long);
          has_pages = ap (list_all is_folder_segment) m.2 ∙ and_from (is_folder_segment seg) (list_all is_folder_segment m.0) is a.has_pages;
        }
    go false is ih = absurd (let there : None ≡ Some folder = sym (ap (λ (s : Segments). slice_get (lineage s) (suc k)) (ends_at seg (take level segs) is)) ∙ e in cc)

-- ---- of an invalidation

nothing : (k : ℕ) (folder : Segments) → slice_get {X = Segments} [] k ≡ Some folder → ⊥
nothing k folder e = cc

wide_of : (level : ℕ) (inv : Invalidation) → inv.only ≡ false → touched_of level inv ≡ down level (parent_of (handle_of inv))
wide_of level inv wide = rw wide refl

touched_at : (level : ℕ) (inv : Invalidation) (k : ℕ) (folder : Segments) → slice_get (touched_of level inv) k ≡ Some folder → (inv.only ≡ false) × IsAboveAt level (parent_of (handle_of inv)) k folder
touched_at level inv k folder e = go inv.only refl
  where
    go : (x : Bool) → inv.only ≡ x → (inv.only ≡ false) × IsAboveAt level (parent_of (handle_of inv)) k folder
    go true is = absurd (nothing k folder (sym (ap (λ (b : Bool). slice_get (cond b [] (down level (parent_of (handle_of inv)))) k) is) ∙ e))
    go false is = (is, at_above level (parent_of (handle_of inv)) k folder (sym (ap (λ (fs : List Segments). slice_get fs k) (wide_of level inv is)) ∙ e))

folder_found : (level : ℕ) (inv : Invalidation) (folder : Segments) → Contains (touched_of level inv) folder → IsTouched level inv folder
folder_found level inv folder c =
    let t = touched_at level inv c.0 folder (at_there (touched_of level inv) c.0 folder c.1 c.2) in
    record { below = t.1.below; wide = t.0; above = t.1.above; shallow = t.1.shallow; has_pages = t.1.has_pages }

folder_only : (level : ℕ) (inv : Invalidation) (folder : Segments) → IsTouched level inv folder → Contains (touched_of level inv) folder
folder_only level inv folder t =
    let at : slice_get (touched_of level inv) (length folder) ≡ Some folder =
    ap (λ (fs : List Segments). slice_get fs (length folder)) (wide_of level inv t.wide ∙ ap (down level) t.above) ∙ above_at level folder t.below t.shallow t.has_pages in
    let there = there_at (touched_of level inv) (length folder) folder at in
    (length folder, there.0, there.1)

pub touched_folders : (level : ℕ) (inv : Invalidation) (folder : Segments) → Contains (touched_of level inv) folder ↔ IsTouched level inv folder
touched_folders level inv folder = (folder_found level inv folder, folder_only level inv folder)

pub touched_in_order : (level : ℕ) (inv : Invalidation) (k : ℕ) (folder : Segments) → slice_get (touched_of level inv) k ≡ Some folder → length folder ≡ k
touched_in_order level inv k folder e = (touched_at level inv k folder e).1.long
