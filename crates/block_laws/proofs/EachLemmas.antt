-- The statements of a tag together.
use Rattle.std.proofs.Common.{◌≡◌, cond, List, [], ◌∷◌, ◌++◌, Option, Some, None, is_none, refl, ap, sym, ◌∙◌, append-nil}
use Rattle.std.specs.List.{filter_map}
use Rattle.std.specs.Option.{option_to_list}
use Rattle.sp_base.specs.Texts.{Text}
use Rattle.htl_text.specs.declared.piece.TemplatePiece.{TemplatePiece}
use Rattle.htl_blocks.specs.declared.attribute.Attribute.{Attribute}
use Rattle.htl_blocks.specs.declared.attribute.Attribute.TheVariants as attribute
use Rattle.htl_blocks.specs.declared.attribute.Attributes.{Attributes}
use Rattle.htl_blocks.specs.declared.attribute.Body.{Body}
use Rattle.htl_blocks.specs.declared.attribute.Unwrap.{Unwrap}
use Rattle.htl_blocks.specs.Attributes.{no_attributes, with_attribute}
use Rattle.block_laws.specs.TagStatements.{as_test, as_list, as_body, as_unwrap, HasEachOnce}

-- one statement after another, where none is like one before
abbrev pub gathered : Option Attributes → List Attribute → Option Attributes
gathered o [] = o
gathered None (b ∷ each) = None
gathered (Some found) (b ∷ each) = gathered (with_attribute found b) each

pub none_gathered : (each : List Attribute) → gathered None each ≡ None
none_gathered [] = refl
none_gathered (b ∷ each) = refl

-- what was found before, and what these say, is what the tag has
record Together (found : Attributes) (each : List Attribute) (a : Attributes) : Type 0 where
  tests : option_to_list found.test ++ filter_map as_test each ≡ option_to_list a.test
  lists : option_to_list found.list ++ filter_map as_list each ≡ option_to_list a.list
  bodies : option_to_list found.body ++ filter_map as_body each ≡ option_to_list a.body
  unwraps : option_to_list found.unwrap ++ filter_map as_unwrap each ≡ option_to_list a.unwrap

none_is : (each : List Attribute) (a : Attributes) → gathered None each ≡ Some a → ⊥
none_is each a e = let clash : None ≡ Some a = sym (none_gathered each) ∙ e in absurd cc

found_together : (each : List Attribute) (found a : Attributes) → gathered (Some found) each ≡ Some a → Together found each a
found_together [] found a e =
    let same : found ≡ a = cc in
    record {
      tests = append-nil (option_to_list found.test) ∙ ap (λ (f : Attributes). option_to_list f.test) same;
      lists = append-nil (option_to_list found.list) ∙ ap (λ (f : Attributes). option_to_list f.list) same;
      bodies = append-nil (option_to_list found.body) ∙ ap (λ (f : Attributes). option_to_list f.body) same;
      unwraps = append-nil (option_to_list found.unwrap) ∙ ap (λ (f : Attributes). option_to_list f.unwrap) same;
    }
found_together (attribute.Test v ∷ each) found a e = go found.test refl (found_together each (record found { test = Some v }) a) e
  where
    go : (o : Option (List TemplatePiece)) → found.test ≡ o → (gathered (Some (record found { test = Some v })) each ≡ Some a → Together (record found { test = Some v }) each a) → gathered (cond (is_none o) (Some (record found { test = Some v })) None) each ≡ Some a → Together found (attribute.Test v ∷ each) a
    go None is later f = let ih = later f in record { tests = rw is ih.tests; lists = ih.lists; bodies = ih.bodies; unwraps = ih.unwraps }
    go (Some w) is later f = absurd (none_is each a f)
found_together (attribute.List name v ∷ each) found a e = go found.list refl (found_together each (record found { list = Some (name, v) }) a) e
  where
    go : (o : Option (Text × List TemplatePiece)) → found.list ≡ o → (gathered (Some (record found { list = Some (name, v) })) each ≡ Some a → Together (record found { list = Some (name, v) }) each a) → gathered (cond (is_none o) (Some (record found { list = Some (name, v) })) None) each ≡ Some a → Together found (attribute.List name v ∷ each) a
    go None is later f = let ih = later f in record { tests = ih.tests; lists = rw is ih.lists; bodies = ih.bodies; unwraps = ih.unwraps }
    go (Some w) is later f = absurd (none_is each a f)
found_together (attribute.Body b ∷ each) found a e = go found.body refl (found_together each (record found { body = Some b }) a) e
  where
    go : (o : Option Body) → found.body ≡ o → (gathered (Some (record found { body = Some b })) each ≡ Some a → Together (record found { body = Some b }) each a) → gathered (cond (is_none o) (Some (record found { body = Some b })) None) each ≡ Some a → Together found (attribute.Body b ∷ each) a
    go None is later f = let ih = later f in record { tests = ih.tests; lists = ih.lists; bodies = rw is ih.bodies; unwraps = ih.unwraps }
    go (Some w) is later f = absurd (none_is each a f)
found_together (attribute.Unwrap u ∷ each) found a e = go found.unwrap refl (found_together each (record found { unwrap = Some u }) a) e
  where
    go : (o : Option Unwrap) → found.unwrap ≡ o → (gathered (Some (record found { unwrap = Some u })) each ≡ Some a → Together (record found { unwrap = Some u }) each a) → gathered (cond (is_none o) (Some (record found { unwrap = Some u })) None) each ≡ Some a → Together found (attribute.Unwrap u ∷ each) a
    go None is later f = let ih = later f in record { tests = ih.tests; lists = ih.lists; bodies = ih.bodies; unwraps = rw is ih.unwraps }
    go (Some w) is later f = absurd (none_is each a f)

pub each_once : (each : List Attribute) (a : Attributes) → gathered (Some no_attributes) each ≡ Some a → HasEachOnce each a
each_once each a e = let x = found_together each no_attributes a e in record { test = x.tests; list = x.lists; body = x.bodies; unwrap = x.unwraps }

-- ---- the other way round

same_option : {X : Type 0} (o p : Option X) → option_to_list o ++ [] ≡ option_to_list p → o ≡ p
same_option None None e = refl
same_option None (Some y) e = absurd cc
same_option (Some x) None e = absurd cc
same_option (Some x) (Some y) e = let same : x ≡ y = cc in ap Some same

two_are_too_many : {X : Type 0} (x y : X) (more : List X) (o : Option X) → x ∷ y ∷ more ≡ option_to_list o → ⊥
two_are_too_many x y more None e = absurd cc
two_are_too_many x y more (Some z) e = let clash : y ∷ more ≡ [] = cc in absurd cc

together_found : (each : List Attribute) (found a : Attributes) → Together found each a → gathered (Some found) each ≡ Some a
together_found [] found a x =
    ap (λ (o : Option (List TemplatePiece)). Some (record found { test = o })) (same_option found.test a.test x.tests)
    ∙ ap (λ (o : Option (Text × List TemplatePiece)). Some (record found { test = a.test; list = o })) (same_option found.list a.list x.lists)
    ∙ ap (λ (o : Option Body). Some (record found { test = a.test; list = a.list; body = o })) (same_option found.body a.body x.bodies)
    ∙ ap (λ (o : Option Unwrap). Some (record found { test = a.test; list = a.list; body = a.body; unwrap = o })) (same_option found.unwrap a.unwrap x.unwraps)
together_found (attribute.Test v ∷ each) found a x = go found.test refl (together_found each (record found { test = Some v }) a) x.tests
  where
    go : (o : Option (List TemplatePiece)) → found.test ≡ o → (Together (record found { test = Some v }) each a → gathered (Some (record found { test = Some v })) each ≡ Some a) → option_to_list found.test ++ v ∷ filter_map as_test each ≡ option_to_list a.test → gathered (cond (is_none o) (Some (record found { test = Some v })) None) each ≡ Some a
    go None is later f = later (record { tests = rw is at f; lists = x.lists; bodies = x.bodies; unwraps = x.unwraps })
    go (Some w) is later f = absurd (two_are_too_many w v (filter_map as_test each) a.test (rw is at f))
together_found (attribute.List name v ∷ each) found a x = go found.list refl (together_found each (record found { list = Some (name, v) }) a) x.lists
  where
    go : (o : Option (Text × List TemplatePiece)) → found.list ≡ o → (Together (record found { list = Some (name, v) }) each a → gathered (Some (record found { list = Some (name, v) })) each ≡ Some a) → option_to_list found.list ++ (name, v) ∷ filter_map as_list each ≡ option_to_list a.list → gathered (cond (is_none o) (Some (record found { list = Some (name, v) })) None) each ≡ Some a
    go None is later f = later (record { tests = x.tests; lists = rw is at f; bodies = x.bodies; unwraps = x.unwraps })
    go (Some w) is later f = absurd (two_are_too_many w (name, v) (filter_map as_list each) a.list (rw is at f))
together_found (attribute.Body b ∷ each) found a x = go found.body refl (together_found each (record found { body = Some b }) a) x.bodies
  where
    go : (o : Option Body) → found.body ≡ o → (Together (record found { body = Some b }) each a → gathered (Some (record found { body = Some b })) each ≡ Some a) → option_to_list found.body ++ b ∷ filter_map as_body each ≡ option_to_list a.body → gathered (cond (is_none o) (Some (record found { body = Some b })) None) each ≡ Some a
    go None is later f = later (record { tests = x.tests; lists = x.lists; bodies = rw is at f; unwraps = x.unwraps })
    go (Some w) is later f = absurd (two_are_too_many w b (filter_map as_body each) a.body (rw is at f))
together_found (attribute.Unwrap u ∷ each) found a x = go found.unwrap refl (together_found each (record found { unwrap = Some u }) a) x.unwraps
  where
    go : (o : Option Unwrap) → found.unwrap ≡ o → (Together (record found { unwrap = Some u }) each a → gathered (Some (record found { unwrap = Some u })) each ≡ Some a) → option_to_list found.unwrap ++ u ∷ filter_map as_unwrap each ≡ option_to_list a.unwrap → gathered (cond (is_none o) (Some (record found { unwrap = Some u })) None) each ≡ Some a
    go None is later f = later (record { tests = x.tests; lists = x.lists; bodies = x.bodies; unwraps = rw is at f })
    go (Some w) is later f = absurd (two_are_too_many w u (filter_map as_unwrap each) a.unwrap (rw is at f))

pub once_gathered : (each : List Attribute) (a : Attributes) → HasEachOnce each a → gathered (Some no_attributes) each ≡ Some a
once_gathered each a x = together_found each no_attributes a (record { tests = x.test; lists = x.list; bodies = x.body; unwraps = x.unwrap })
