-- One step of putting a page together.
use Rattle.std.proofs.Common.{inl, ◌≡◌, ◌≢◌, ◌≤◌, ◌<◌, ◌+◌, ◌-◌, ℕ, zero, suc, Bool, true, false, List, [], ◌∷◌, ◌++◌, Option, Some, None, Result, length, take, drop, get_or, refl, ap, sym, subst, ◌∙◌, arith, length-append, cond}
use Rattle.std.specs.Prelude.{if◌then◌else◌, option_map}
use Rattle.std.specs.List.{flat_map}
use Rattle.std.proofs.lemmas.List.{take_all, take-append-drop}
use Rattle.std.proofs.lemmas.List.Concat.{flat_map-append}
use Rattle.std.proofs.lemmas.List.Sums.{sum_by-append}
use Rattle.sp_base.specs.Paths.{parent_of}
use Rattle.sp_base.specs.Texts.{Pairs, Properties, Segments, Text}
use Rattle.resource_tree.specs.Content.{Content}
use Rattle.resource_tree.specs.Seen.{Resource}
use Rattle.overlay_merge.specs.Merged.{merged_alone, merged_resource, without_kids}
use Rattle.overlay_merge.specs.Roots.{is_merged_path}
use Rattle.type_chain.specs.Chain.{chain_of}
use Rattle.script_rank.specs.Search.{search_result as first_script}
use Rattle.htl_blocks.specs.Parts.{Part, Script, Resource as ResourcePart, inclusions, is_inclusion, part_text, rounds, seen, text_of_parts}
use Rattle.htl_blocks.proofs.WrittenLemmas.{parts_of_one_more}
use Rattle.publisher.specs.declared.page_fault.PageFault.{PageFault}
use Rattle.publisher.specs.declared.page_fault.PageFault.TheVariants.{NoMemory}
use Rattle.publisher.specs.declared.waiting.Waiting.{Waiting}
use Rattle.publisher.specs.Waits.{IsLeastOf, IsSizeOf, nothing}
use Rattle.publisher.specs.Gathering.{Gathered, IsPassed, PassLimits}
use Rattle.publisher.specs.Pages.{GatheredPage, ScriptSetting, blank, html_parts, included_resource, included_script, inclusion, joined, one_inclusion, parts_page, path_named, put_in, resource_by, rounds_page, written_resource, too_deep, written_by_script, written_page}
use Rattle.publisher.proofs.PageLemmas.{after, has_at_least, joined_assoc, joined_blank, parts_append, parts_pass, passed_before, passed_then, resource_is, rounds_apart, script_is, stopped}

-- ---- the blocks of a script

-- contents of lists, and then what is seen of the parts
counted_apart : (put : Part → GatheredPage) (ps parts : List Part) (n : ℕ) → parts ≡ seen ps → n ≡ rounds ps → joined (rounds_page n) (parts_page put parts) ≡ parts_page put ps
counted_apart put ps parts n seen_is count = (λ i. joined (rounds_page (count i)) (parts_page put (seen_is i))) ∙ rounds_apart put ps

pub blocks_written : {A : Type 0} (w : Waiting) (r : Result A PageFault) (put : Part → GatheredPage) (old mid new : GatheredPage) (ps parts : List Part) (n : ℕ) → parts ≡ seen ps → n ≡ rounds ps → mid ≡ joined old (rounds_page n)
    → Gathered w r mid new (parts_page put parts) → Gathered w r old new (parts_page put ps)
blocks_written w r put old mid new ps parts n seen_is count counted more =
    subst (Gathered w r old new) (counted_apart put ps parts n seen_is count) (after w r old mid new (rounds_page n) (parts_page put parts) counted more)

-- there is no room for what stands in them
pub room_stop : (f : PageFault) (w v least : Waiting) (put : Part → GatheredPage) (old mid : GatheredPage) (ps parts : List Part) (n : ℕ) → parts ≡ seen ps → n ≡ rounds ps → mid ≡ joined old (rounds_page n) → IsLeastOf least parts
    → v.text ≤ w.text + least.text → v.inclusions ≤ w.inclusions + least.inclusions → (f ≢ NoMemory → IsPassed v mid) → f ≢ NoMemory → IsPassed w (joined old (parts_page put ps))
room_stop f w v least put old mid ps parts n seen_is count counted is text included h known =
    let has = has_at_least put parts in
    let enough = has.text in
    let many = has.included in
    let small = is.0 in
    let few = is.1 in
    let passed : IsPassed w (joined mid (parts_page put parts)) = passed_then w v mid (parts_page put parts) (omega (arith, text, small, enough)) (omega (arith, included, few, many)) (h known) in
    subst (IsPassed w) (ap (λ (m : GatheredPage). joined m (parts_page put parts)) counted ∙ joined_assoc old (rounds_page n) (parts_page put parts) ∙ ap (joined old) (counted_apart put ps parts n seen_is count)) passed

pub rounds_stop : (w : Waiting) (f : PageFault) (put : Part → GatheredPage) (old : GatheredPage) (ps : List Part) (n : ℕ) → n ≡ rounds ps → (f ≢ NoMemory → IsPassed nothing (joined old (rounds_page n))) → f ≢ NoMemory → IsPassed w (joined old (parts_page put ps))
rounds_stop w f put old ps n count h known =
    subst (λ (p : GatheredPage). IsPassed w (joined old p)) (counted_apart put ps (seen ps) n refl count) (stopped w f old (rounds_page n) (parts_page put (seen ps)) h known)

pub pieces_stop : (w : Waiting) (f : PageFault) (put : Part → GatheredPage) (old : GatheredPage) (ps : List Part) → (f ≢ NoMemory → PassLimits ps) → f ≢ NoMemory → IsPassed w (joined old (parts_page put ps))
pieces_stop w f put old ps h known = parts_pass w put old ps (h known)

-- ---- one piece after another

more_is : {X : Type 0} (put : Part → GatheredPage) (g : X → List Part) (old mid : GatheredPage) (xs : List X) (i : ℕ) (d x : X) → i < length xs → x ≡ get_or xs i d → mid ≡ joined old (parts_page put (flat_map g (take i xs)))
    → joined mid (parts_page put (g x)) ≡ joined old (parts_page put (flat_map g (take (i + 1) xs)))
more_is put g old mid xs i d x lt is known =
    ap (λ (m : GatheredPage). joined m (parts_page put (g x))) known ∙ joined_assoc old (parts_page put (flat_map g (take i xs))) (parts_page put (g x))
    ∙ ap (joined old) (sym (parts_append put (flat_map g (take i xs)) (g x)) ∙ ap (parts_page put) (parts_of_one_more g xs i d x lt is))

pub each_more : {X : Type 0} (put : Part → GatheredPage) (g : X → List Part) (old mid new : GatheredPage) (xs : List X) (i : ℕ) (d x : X) → i < length xs → x ≡ get_or xs i d → mid ≡ joined old (parts_page put (flat_map g (take i xs)))
    → new ≡ joined mid (parts_page put (g x)) → new ≡ joined old (parts_page put (flat_map g (take (i + 1) xs)))
each_more put g old mid new xs i d x lt is known e = e ∙ more_is put g old mid xs i d x lt is known

-- how much stands in parts, one after another
text_append : (ps qs : List Part) → length (text_of_parts (ps ++ qs)) ≡ length (text_of_parts ps) + length (text_of_parts qs)
text_append ps qs = ap length (flat_map-append part_text ps qs) ∙ length-append (text_of_parts ps) (text_of_parts qs)

inclusions_append : (ps qs : List Part) → inclusions (ps ++ qs) ≡ inclusions ps + inclusions qs
inclusions_append ps qs = sum_by-append (λ (p : Part). cond (is_inclusion p) 1 0) ps qs

all_are : {X : Type 0} (g : X → List Part) (xs : List X) (i : ℕ) → flat_map g (take i xs) ++ flat_map g (drop i xs) ≡ flat_map g xs
all_are g xs i = sym (flat_map-append g (take i xs) (drop i xs)) ∙ ap (flat_map g) (take-append-drop i xs)

-- so much is left of parts at most, where these are done
pub record IsLeft (left : Waiting) (done all : List Part) : Type 0 where
  pub text : left.text + length (text_of_parts done) ≤ length (text_of_parts all)
  pub included : left.inclusions + inclusions done ≤ inclusions all

pub all_left : (least : Waiting) (all : List Part) → IsLeastOf least all → IsLeft least [] all
all_left least all is = let small = is.0 in let few = is.1 in record { text = omega (arith, small); included = omega (arith, few) }

pub one_less : {X : Type 0} (g : X → List Part) (xs : List X) (i : ℕ) (d x : X) (left now new : Waiting) → i < length xs → x ≡ get_or xs i d → IsSizeOf now (g x) → new.text ≡ left.text - now.text → new.inclusions ≡ left.inclusions - now.inclusions
    → IsLeft left (flat_map g (take i xs)) (flat_map g xs) → IsLeft new (flat_map g (take (i + 1) xs)) (flat_map g xs)
one_less g xs i d x left now new lt is size text included known =
    let more = parts_of_one_more g xs i d x lt is in
    let longer = sym (ap (λ (ps : List Part). length (text_of_parts ps)) more) ∙ text_append (flat_map g (take i xs)) (g x) in
    let further = sym (ap inclusions more) ∙ inclusions_append (flat_map g (take i xs)) (g x) in
    let rest = flat_map g (drop (i + 1) xs) in
    let all_text = sym (ap (λ (ps : List Part). length (text_of_parts ps)) (all_are g xs (i + 1))) ∙ text_append (flat_map g (take (i + 1) xs)) rest in
    let all_included = sym (ap inclusions (all_are g xs (i + 1))) ∙ inclusions_append (flat_map g (take (i + 1) xs)) rest in
    let a = known.text in
    let b = known.included in
    let s = size.0 in
    let t = size.1 in
    record { text = omega (arith, longer, all_text, a, s, text); included = omega (arith, further, all_included, b, t, included) }

pub each_stopped : {X : Type 0} (w v left : Waiting) (put : Part → GatheredPage) (g : X → List Part) (f : PageFault) (old mid : GatheredPage) (xs : List X) (i : ℕ) (d x : X) → i < length xs → x ≡ get_or xs i d
    → mid ≡ joined old (parts_page put (flat_map g (take i xs))) → v.text ≤ w.text + left.text → v.inclusions ≤ w.inclusions + left.inclusions → IsLeft left (flat_map g (take (i + 1) xs)) (flat_map g xs)
    → (f ≢ NoMemory → IsPassed v (joined mid (parts_page put (g x)))) → f ≢ NoMemory → IsPassed w (joined old (parts_page put (flat_map g xs)))
each_stopped w v left put g f old mid xs i d x lt is known text included are_left h ne =
    let done = flat_map g (take (i + 1) xs) in
    let rest = flat_map g (drop (i + 1) xs) in
    let here : IsPassed v (joined old (parts_page put done)) = subst (IsPassed v) (more_is put g old mid xs i d x lt is known) (h ne) in
    let has = has_at_least put rest in
    let enough = has.text in
    let many = has.included in
    let a = are_left.text in
    let b = are_left.included in
    let all_text = sym (ap (λ (ps : List Part). length (text_of_parts ps)) (all_are g xs (i + 1))) ∙ text_append done rest in
    let all_included = sym (ap inclusions (all_are g xs (i + 1))) ∙ inclusions_append done rest in
    let passed : IsPassed w (joined (joined old (parts_page put done)) (parts_page put rest)) =
    passed_then w v (joined old (parts_page put done)) (parts_page put rest) (omega (arith, text, a, all_text, enough)) (omega (arith, included, b, all_included, many)) here in
    let whole : joined (parts_page put done) (parts_page put rest) ≡ parts_page put (flat_map g xs) = sym (parts_append put done rest) ∙ ap (parts_page put) (all_are g xs (i + 1)) in
    subst (IsPassed w) (joined_assoc old (parts_page put done) (parts_page put rest) ∙ ap (joined old) whole) passed

pub each_done : {X : Type 0} (put : Part → GatheredPage) (g : X → List Part) (old new : GatheredPage) (xs : List X) (i : ℕ) → length xs ≤ i → new ≡ joined old (parts_page put (flat_map g (take i xs))) → new ≡ joined old (parts_page put (flat_map g xs))
each_done {X} put g old new xs i le known = known ∙ ap (λ (ys : List X). joined old (parts_page put (flat_map g ys))) (take_all i xs le)

-- the least that parts write, one after another
pub least_more : {X : Type 0} (g : X → List Part) (xs : List X) (i : ℕ) (d x : X) (least now new : Waiting) → i < length xs → x ≡ get_or xs i d → IsSizeOf now (g x) → new.text ≤ least.text + now.text → new.inclusions ≤ least.inclusions + now.inclusions
    → IsLeastOf least (flat_map g (take i xs)) → IsLeastOf new (flat_map g (take (i + 1) xs))
least_more g xs i d x least now new lt is size text included known =
    let more = parts_of_one_more g xs i d x lt is in
    let longer = sym (ap (λ (ps : List Part). length (text_of_parts ps)) more) ∙ text_append (flat_map g (take i xs)) (g x) in
    let further = sym (ap inclusions more) ∙ inclusions_append (flat_map g (take i xs)) (g x) in
    let a = known.0 in
    let b = known.1 in
    let s = size.0 in
    let t = size.1 in
    (omega (arith, longer, a, s, text), omega (arith, further, b, t, included))

pub least_done : {X : Type 0} (g : X → List Part) (xs : List X) (i : ℕ) (least : Waiting) → length xs ≤ i → IsLeastOf least (flat_map g (take i xs)) → IsLeastOf least (flat_map g xs)
least_done {X} g xs i least end known = subst (λ (ys : List X). IsLeastOf least (flat_map g ys)) (take_all i xs end) known

-- what a page has of parts so far, and what is left of them
pub record IsSoFar (put : Part → GatheredPage) (old page : GatheredPage) (left : Waiting) (done all : List Part) : Type 0 where
  pub written : page ≡ joined old (parts_page put done)
  pub remains : IsLeft left done all

-- ---- a piece

pub script_written : {A : Type 0} (w : Waiting) (r : Result A PageFault) (put : Part → GatheredPage) (old mid new : GatheredPage) (name : Text) (vars : Pairs) → mid ≡ joined old one_inclusion → Gathered w r mid new (put (Script name vars))
    → Gathered w r old new (parts_page put (Script name vars ∷ []))
script_written w r put old mid new name vars counted more = subst (Gathered w r old new) (sym (script_is put name vars)) (after w r old mid new one_inclusion (put (Script name vars)) counted more)

pub resource_written : {A : Type 0} (w : Waiting) (r : Result A PageFault) (put : Part → GatheredPage) (old mid new : GatheredPage) (name : Text) → mid ≡ joined old one_inclusion → Gathered w r mid new (put (ResourcePart name))
    → Gathered w r old new (parts_page put (ResourcePart name ∷ []))
resource_written w r put old mid new name counted more = subst (Gathered w r old new) (sym (resource_is put name)) (after w r old mid new one_inclusion (put (ResourcePart name)) counted more)

pub script_stopped : (w : Waiting) (f : PageFault) (put : Part → GatheredPage) (old : GatheredPage) (name : Text) (vars : Pairs) → (f ≢ NoMemory → IsPassed nothing (joined old one_inclusion)) → f ≢ NoMemory → IsPassed w (joined old (parts_page put (Script name vars ∷ [])))
script_stopped w f put old name vars h known = subst (λ (p : GatheredPage). IsPassed w (joined old p)) (sym (script_is put name vars)) (stopped w f old one_inclusion (put (Script name vars)) h known)

pub resource_stopped : (w : Waiting) (f : PageFault) (put : Part → GatheredPage) (old : GatheredPage) (name : Text) → (f ≢ NoMemory → IsPassed nothing (joined old one_inclusion)) → f ≢ NoMemory → IsPassed w (joined old (parts_page put (ResourcePart name ∷ [])))
resource_stopped w f put old name h known = subst (λ (p : GatheredPage). IsPassed w (joined old p)) (sym (resource_is put name)) (stopped w f old one_inclusion (put (ResourcePart name)) h known)

-- ---- what is put in

pub nothing_deeper : (tree : Content) (n : ℕ) (setting : ScriptSetting) (p : Part) → n ≡ 0 → inclusion tree n setting p ≡ too_deep
unfolding inclusion
nothing_deeper tree zero setting p none = refl
nothing_deeper tree (suc n) setting p none = absurd (omega (arith, none))

one_deeper : (tree : Content) (n : ℕ) (setting : ScriptSetting) (p : Part) → n ≢ 0 → inclusion tree n setting p ≡ written_page (inclusion tree (n - 1)) (put_in tree setting p)
unfolding inclusion
one_deeper tree zero setting p some = absurd (some refl)
one_deeper tree (suc n) setting p some = let less : n ≡ suc n - 1 = omega arith in ap (λ m. written_page (inclusion tree m) (put_in tree setting p)) less

-- where something is too deep, a limit is passed
pub deep_stops : (w : Waiting) (tree : Content) (n : ℕ) (setting : ScriptSetting) (p : Part) (old : GatheredPage) → n ≡ 0 → IsPassed w (joined old (inclusion tree n setting p))
deep_stops w tree n setting p old none = passed_before w old (inclusion tree n setting p) (inl (ap (λ (q : GatheredPage). q.is_deep) (nothing_deeper tree n setting p none)))

-- nothing stands where there is nothing to put in
pub nothing_more : (old page : GatheredPage) → page ≡ blank → old ≡ joined old page
nothing_more old page none = sym (joined_blank old) ∙ ap (joined old) (sym none)

pub script_step : (tree : Content) (n : ℕ) (setting : ScriptSetting) (name : Text) (vars : Pairs) (folder : Segments) (o : Option Segments) → n ≢ 0 → folder ≡ parent_of setting.script → o ≡ path_named folder name
    → inclusion tree n setting (Script name vars) ≡ written_page (inclusion tree (n - 1)) (included_script tree setting vars o)
script_step tree n setting name vars folder o some same named =
    one_deeper tree n setting (Script name vars) some
    ∙ ap (λ (q : Option Segments). written_page (inclusion tree (n - 1)) (included_script tree setting vars q)) (sym (named ∙ ap (λ (f : Segments). path_named f name) same))

-- a resource is shown by its properties and its path
shown_without_kids : (tree : Content) (o : Option Resource) → written_resource tree (option_map without_kids o) ≡ written_resource tree o
shown_without_kids tree None = refl
shown_without_kids tree (Some res) = refl

shown_alone : (tree : Content) (path : Segments) → written_resource tree (merged_resource tree path) ≡ written_resource tree (merged_alone tree path)
unfolding merged_alone
shown_alone tree path = by (is_merged_path path) refl
  where
    by : (b : Bool) → is_merged_path path ≡ b → written_resource tree (merged_resource tree path) ≡ written_resource tree (if b then option_map without_kids (merged_resource tree path) else merged_resource tree path)
    by true is = sym (shown_without_kids tree (merged_resource tree path))
    by false is = refl

pub resource_step : (tree : Content) (n : ℕ) (setting : ScriptSetting) (name : Text) (o : Option Segments) → n ≢ 0 → o ≡ path_named setting.path name
    → inclusion tree n setting (ResourcePart name) ≡ written_page (inclusion tree (n - 1)) (included_resource tree o)
resource_step tree n setting name o some named =
    one_deeper tree n setting (ResourcePart name) some ∙ ap (λ (q : Option Segments). written_page (inclusion tree (n - 1)) (included_resource tree q)) (sym named)

pub shown_step : (tree : Content) (path : Segments) (o : Option Resource) → o ≡ merged_alone tree path → included_resource tree (Some path) ≡ written_resource tree o
shown_step tree path o seen_is = shown_alone tree path ∙ ap (written_resource tree) (sym seen_is)

pub by_step : (tree : Content) (res : Resource) (o : Option Segments) → o ≡ first_script tree (chain_of tree res.props) (html_parts res.path) → written_resource tree (Some res) ≡ resource_by tree res o
by_step tree res o first = ap (resource_by tree res) (sym first)

-- what a script writes in the setting of a resource
pub written_for : {A : Type 0} (w : Waiting) (r : Result A PageFault) (put : ScriptSetting → Part → GatheredPage) (tree : Content) (res : Resource) (script path : Segments) (props : Properties) (vars : Pairs) (old new : GatheredPage) → path ≡ res.path → props ≡ res.props → vars ≡ []
    → Gathered w r old new (written_page put (written_by_script tree (record { script = script; path = path; props = props }) vars)) → Gathered w r old new (written_page put (resource_by tree res (Some script)))
written_for w r put tree res script path props vars old new path_is props_is none written =
    subst (Gathered w r old new) (λ i. written_page put (written_by_script tree (record { script = script; path = path_is i; props = props_is i }) (none i))) written
