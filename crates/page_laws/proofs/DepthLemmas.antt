-- Where something is to be put in too deep.
use Rattle.std.proofs.Common.{◌≡◌, ◌⊎◌, inl, inr, ℕ, zero, suc, Bool, true, false, ◌||◌, List, [], ◌∷◌, ◌++◌, Option, Some, None, refl, ap, sym, ◌∙◌}
use Rattle.std.proofs.lemmas.Bool.{or_cases, or_right}
use Rattle.resource_tree.specs.Content.{Content}
use Rattle.htl_blocks.specs.Parts.{Part, Byte, Round, Script, Resource, is_inclusion}
use Rattle.publisher.specs.Pages.{GatheredPage, ScriptSetting, Written, inclusion, part_page, parts_page, put_in, written_page}
use Rattle.publisher.proofs.PageLemmas.{parts_more, parts_none}
use Rattle.page_laws.specs.Limits.{Nests}

-- a part among others that is too deep
record DeepPart (put : Part → GatheredPage) (ps : List Part) : Type 0 where
  before : List Part
  part : Part
  after : List Part
  whole : ps ≡ before ++ part ∷ after
  puts : is_inclusion part ≡ true
  deep : (put part).is_deep ≡ true

part_deep : (put : Part → GatheredPage) (p : Part) → (part_page put p).is_deep ≡ true → (is_inclusion p ≡ true) × ((put p).is_deep ≡ true)
part_deep put (Byte c) e = absurd cc
part_deep put Round e = absurd cc
part_deep put (Script name vars) e = (refl, e)
part_deep put (Resource name) e = (refl, e)

deep_part : (put : Part → GatheredPage) (p : Part) → is_inclusion p ≡ true → (put p).is_deep ≡ true → (part_page put p).is_deep ≡ true
deep_part put (Byte c) puts e = absurd cc
deep_part put Round puts e = absurd cc
deep_part put (Script name vars) puts e = e
deep_part put (Resource name) puts e = e

deep_found : (put : Part → GatheredPage) (ps : List Part) → (parts_page put ps).is_deep ≡ true → DeepPart put ps
deep_found put [] e = let clash : false ≡ true = ap (λ (page : GatheredPage). page.is_deep) (sym (parts_none put)) ∙ e in absurd cc
deep_found put (p ∷ ps) e = go (or_cases (part_page put p).is_deep (parts_page put ps).is_deep (ap (λ (page : GatheredPage). page.is_deep) (sym (parts_more put p ps)) ∙ e)) (deep_found put ps)
  where
    go : ((part_page put p).is_deep ≡ true) ⊎ ((parts_page put ps).is_deep ≡ true) → ((parts_page put ps).is_deep ≡ true → DeepPart put ps) → DeepPart put (p ∷ ps)
    go (inl here) later = let x = part_deep put p here in record { before = []; part = p; after = ps; whole = refl; puts = x.0; deep = x.1 }
    go (inr there) later = let x = later there in record { before = p ∷ x.before; part = x.part; after = x.after; whole = ap (λ (qs : List Part). p ∷ qs) x.whole; puts = x.puts; deep = x.deep }

deep_among : (put : Part → GatheredPage) (before : List Part) (p : Part) (after : List Part) → is_inclusion p ≡ true → (put p).is_deep ≡ true → (parts_page put (before ++ p ∷ after)).is_deep ≡ true
deep_among put [] p after puts deep =
    ap (λ (page : GatheredPage). page.is_deep) (parts_more put p after) ∙ ap (λ (b : Bool). b || (parts_page put after).is_deep) (deep_part put p puts deep)
deep_among put (q ∷ before) p after puts deep =
    ap (λ (page : GatheredPage). page.is_deep) (parts_more put q (before ++ p ∷ after)) ∙ or_right (part_page put q).is_deep (parts_page put (before ++ p ∷ after)).is_deep (deep_among put before p after puts deep)

deep_at_none : (tree : Content) (setting : ScriptSetting) (p : Part) → (inclusion tree zero setting p).is_deep ≡ true
unfolding inclusion
deep_at_none tree setting p = refl

inclusion_is : (tree : Content) (levels : ℕ) (setting : ScriptSetting) (p : Part) → inclusion tree (suc levels) setting p ≡ written_page (inclusion tree levels) (put_in tree setting p)
unfolding inclusion
inclusion_is tree levels setting p = refl

-- what is put in, if it is too deep
deep_within : (tree : Content) (levels : ℕ) (setting : ScriptSetting) (p : Part) → (inclusion tree (suc levels) setting p).is_deep ≡ true
    → (w : Written) × (put_in tree setting p ≡ Some w) × ((parts_page (inclusion tree levels w.setting) w.parts).is_deep ≡ true)
deep_within tree levels setting p e = go (put_in tree setting p) refl (ap (λ (page : GatheredPage). page.is_deep) (sym (inclusion_is tree levels setting p)) ∙ e)
  where
    go : (o : Option Written) → put_in tree setting p ≡ o → (written_page (inclusion tree levels) o).is_deep ≡ true → (w : Written) × (put_in tree setting p ≡ Some w) × ((parts_page (inclusion tree levels w.setting) w.parts).is_deep ≡ true)
    go None is f = absurd cc
    go (Some w) is f = (w, is, f)

is_put_in : (tree : Content) (setting : ScriptSetting) (p : Part) (w : Written) → put_in tree setting p ≡ Some w → is_inclusion p ≡ true
is_put_in tree setting (Byte c) w e = absurd cc
is_put_in tree setting Round w e = absurd cc
is_put_in tree setting (Script name vars) w e = refl
is_put_in tree setting (Resource name) w e = refl

pub deep_nests : (tree : Content) (levels : ℕ) (setting : ScriptSetting) (ps : List Part) → (parts_page (inclusion tree levels setting) ps).is_deep ≡ true → Nests tree levels setting ps
deep_nests tree zero setting ps e = let x = deep_found (inclusion tree zero setting) ps e in record { before = x.before; part = x.part; after = x.after; whole = x.whole; puts = x.puts }
deep_nests tree (suc levels) setting ps e =
    let x = deep_found (inclusion tree (suc levels) setting) ps e in
    let y = deep_within tree levels setting x.part x.deep in
    (y.0, record { before = x.before; part = x.part; after = x.after; whole = x.whole; there = y.1 }, deep_nests tree levels y.0.setting y.0.parts y.2)

pub nests_deep : (tree : Content) (levels : ℕ) (setting : ScriptSetting) (ps : List Part) → Nests tree levels setting ps → (parts_page (inclusion tree levels setting) ps).is_deep ≡ true
nests_deep tree zero setting ps x =
    ap (λ (qs : List Part). (parts_page (inclusion tree zero setting) qs).is_deep) x.whole ∙ deep_among (inclusion tree zero setting) x.before x.part x.after x.puts (deep_at_none tree setting x.part)
nests_deep tree (suc levels) setting ps x =
    let one = x.1 in
    let inner = nests_deep tree levels x.0.setting x.0.parts x.2 in
    let deep : (inclusion tree (suc levels) setting one.part).is_deep ≡ true = ap (λ (page : GatheredPage). page.is_deep) (inclusion_is tree levels setting one.part ∙ ap (written_page (inclusion tree levels)) one.there) ∙ inner in
    ap (λ (qs : List Part). (parts_page (inclusion tree (suc levels) setting) qs).is_deep) one.whole
    ∙ deep_among (inclusion tree (suc levels) setting) one.before one.part one.after (is_put_in tree setting one.part x.0 one.there) deep
