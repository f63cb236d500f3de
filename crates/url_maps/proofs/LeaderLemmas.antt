-- Which of the nodes with one vanity path leads the others.
use Rattle.std.proofs.Common.{◌≡◌, ◌⊎◌, inl, inr, ◌<◌, ◌+◌, ℕ, zero, suc, Bool, true, false, cond, List, [], ◌∷◌, ◌++◌, Option, Some, None, map, take, length, get_or, refl, sym, ◌∙◌, ap, append_assoc, subst, arith, ⊎_elim}
use Rattle.std.specs.Prelude.{◌||◌, ◌&&◌, IsSome, not, slice_get}
use Rattle.std.specs.Cmp.{IsTotalOrder, tied_itself}
use Rattle.std.specs.Cmp.Lexicographic.{nat_list_cmp_total}
use Rattle.std.specs.List.{list_any}
use Rattle.std.specs.Map.{lookup}
use Rattle.std.specs.Option.{option_map_or}
use Rattle.std.specs.Ordering.{int_cmp, is_lt, ordering_then}
use Rattle.std.specs.Str.{bytes_eq}
use Rattle.std.proofs.lemmas.Bool.{cases_Bool, false≢true, true≢false}
use Rattle.std.proofs.lemmas.Cmp.{back_total, int_cmp_total, on_total, then_total}
use Rattle.std.proofs.lemmas.List.{map_push}
use Rattle.std.proofs.lemmas.List.Folds.{list_any_at, list_any_more}
use Rattle.sp_base.specs.Names.{by_name}
use Rattle.sp_base.specs.Paths.{is_path, text_of}
use Rattle.sp_base.proofs.BoolLemmas.{or_false}
use Rattle.sp_base.proofs.OrderingLemmas.{less_from_test}
use Rattle.sp_base.proofs.TextLemmas.{bytes_eq_swapped}
use Rattle.resource_tree.specs.declared.nodes.Node.{Node}
use Rattle.resource_tree.specs.Content.{Content, IsTree, node_at, same_path}
use Rattle.resource_tree.specs.Patches as patches
use Rattle.resource_tree.proofs.PathLemmas.{path_from_same, same_path_self}
use Rattle.url_maps.specs.Claims.{AreClaims, AreLed, ClaimRows, IsLeader, IsLed, claimants, claims_vanity_path, cmp_by}
use Rattle.url_maps.specs.Changes.{AreChanged, LeavesOthers, claimants_over}
use Rattle.url_maps.specs.Noting.{IsFirstOf, PutsLeaderFirst, LeadsRow, LeadsRows, others}
use Rattle.url_maps.specs.Search.{IsFirstPath}
use Rattle.url_maps.specs.VanityPaths.{order_of, vanity_cmp, vanity_order}
use Rattle.url_maps.proofs.ChangeLemmas.{any_filter}
use Rattle.url_maps.proofs.PathLemmas.{IsReadBack}
use Rattle.url_maps.proofs.VanityLemmas.{after_first, vanity_valid}

-- ---- the order

cmp_total : (at : List (List ℕ) → Option Node) → IsTotalOrder (cmp_by at)
cmp_total at = then_total (back_total (on_total (λ (p : List (List ℕ)). order_of (at p)) int_cmp_total)) (on_total text_of nat_list_cmp_total)

not_before_itself : (at : List (List ℕ) → Option Node) (path : List (List ℕ)) → is_lt (cmp_by at path path) ≡ false
not_before_itself at path = ap is_lt (tied_itself (cmp_total at) path)

not_before : (at : List (List ℕ) → Option Node) (path first other : List (List ℕ)) → is_lt (cmp_by at path first) ≡ true → is_lt (cmp_by at other first) ≡ false → is_lt (cmp_by at other path) ≡ false
not_before at path first other before after =
    ⊎_elim
    (λ (less : is_lt (cmp_by at other path) ≡ true).
    absurd (true≢false (sym (ap is_lt ((cmp_total at).trans other path first (less_from_test (cmp_by at other path) less) (less_from_test (cmp_by at path first) before))) ∙ after)))
    (λ (more : is_lt (cmp_by at other path) ≡ false). more)
    (cases_Bool (is_lt (cmp_by at other path)))

-- ---- the first of some paths

among_more : (other : List (List ℕ)) (paths : List (List (List ℕ))) (i : ℕ) (path : List (List ℕ)) → i < length paths → path ≡ get_or paths i path → list_any (same_path other) (take (i + 1) paths) ≡ true
    → (list_any (same_path other) (take i paths) ≡ true) ⊎ (other ≡ path)
among_more other paths i path within item among =
    ⊎_elim
    (λ (old : list_any (same_path other) (take i paths) ≡ true). inl old)
    (λ (new : list_any (same_path other) (take i paths) ≡ false).
    inr (path_from_same other path (ap (same_path other) item ∙ sym (ap (λ b. b || same_path other (get_or paths i path)) new) ∙ sym (list_any_more (same_path other) paths i path within) ∙ among)))
    (cases_Bool (list_any (same_path other) (take i paths)))

-- of the paths so far, and of one more
pub first_next : (at : List (List ℕ) → Option Node) (first : List (List ℕ)) (paths : List (List (List ℕ))) (i : ℕ) (path next : List (List ℕ)) → i < length paths → path ≡ get_or paths i path
    → next ≡ cond (is_lt (cmp_by at path first)) path first → list_any (same_path first) paths ≡ true → IsLeader at (take i paths) first
    → (list_any (same_path next) paths ≡ true) × IsLeader at (take (i + 1) paths) next
first_next at first paths i path next within item is among so_far =
    let listed : list_any (same_path path) paths ≡ true = list_any_at (same_path path) paths i path within (ap (same_path path) (sym item) ∙ same_path_self path) in
    ⊎_elim
    (λ (before : is_lt (cmp_by at path first) ≡ true).
    let same : next ≡ path = is ∙ ap (λ b. cond b path first) before in (
      ap (λ q. list_any (same_path q) paths) same ∙ listed,
      subst (IsLeader at (take (i + 1) paths)) (sym same) (λ other is_among.
          ⊎_elim
          (λ (old : list_any (same_path other) (take i paths) ≡ true). not_before at path first other before (so_far other old))
          (λ (one : other ≡ path). ap (λ q. is_lt (cmp_by at q path)) one ∙ not_before_itself at path)
          (among_more other paths i path within item is_among)),
    ))
    (λ (after : is_lt (cmp_by at path first) ≡ false).
    let same : next ≡ first = is ∙ ap (λ b. cond b path first) after in (
      ap (λ q. list_any (same_path q) paths) same ∙ among,
      subst (IsLeader at (take (i + 1) paths)) (sym same) (λ other is_among.
          ⊎_elim
          (λ (old : list_any (same_path other) (take i paths) ≡ true). so_far other old)
          (λ (one : other ≡ path). ap (λ q. is_lt (cmp_by at q first)) one ∙ after)
          (among_more other paths i path within item is_among)),
    ))
    (cases_Bool (is_lt (cmp_by at path first)))

-- ---- one row

law_first : (s b : Bool) → (s ≡ true → b ≡ true) → (s || (b && not s)) ≡ b
law_first true b all = sym (all refl)
law_first false true all = refl
law_first false false all = refl

-- the first before the others
pub leads_by : (at : List (List ℕ) → Option Node) (paths new : List (List (List ℕ))) (first : List (List ℕ)) → IsFirstOf at paths first → new ≡ first ∷ others first paths → PutsLeaderFirst at paths new
leads_by at paths new first is_first is =
    let same : (q : List (List ℕ)) → list_any (same_path q) (first ∷ others first paths) ≡ list_any (same_path q) paths = λ q.
    ap (λ x. same_path q first || x) (any_filter q (λ p. not (same_path p first)) paths)
    ∙ law_first (same_path q first) (list_any (same_path q) paths) (λ one. ap (λ p. list_any (same_path p) paths) (path_from_same q first one) ∙ is_first.among) in
    subst (PutsLeaderFirst at paths) (sym is) (record { paths = same; led = λ other among. is_first.first other (sym (same other) ∙ among) })

-- fewer than two paths
pub leads_few : (at : List (List ℕ) → Option Node) (paths : List (List (List ℕ))) → length paths < 2 → PutsLeaderFirst at paths paths
leads_few at [] few = record { paths = λ q. refl; led = tt }
leads_few at (path ∷ []) few = record {
  paths = λ q. refl;
  led = λ other among. ap (λ q. is_lt (cmp_by at q path)) (path_from_same other path (sym (or_false (same_path other path)) ∙ among)) ∙ not_before_itself at path;
}
leads_few at (path ∷ other ∷ paths) few = absurd (omega (arith, few))

-- ---- all rows

row_more : (at : List (List ℕ) → Option Node) (b : Bool) (paths led : List (List (List ℕ))) (old new : Option (List (List (List ℕ)))) → PutsLeaderFirst at paths led → LeadsRow at old new → LeadsRow at (cond b (Some paths) old) (cond b (Some led) new)
row_more at true paths led old new leads others = leads
row_more at false paths led old new leads others = others

-- one row more, before the others
pub rows_led : (at : List (List ℕ) → Option Node) (done old new : ClaimRows) (text : List ℕ) (paths led : List (List (List ℕ))) → LeadsRows at done old → PutsLeaderFirst at paths led
    → ((t : List ℕ) → lookup (bytes_eq t) new ≡ cond (bytes_eq text t) (Some led) (lookup (bytes_eq t) old)) → LeadsRows at ((text, paths) ∷ done) new
rows_led at done old new text paths led so_far leads is t =
    subst (LeadsRow at (cond (bytes_eq t text) (Some paths) (lookup (bytes_eq t) done))) (sym (is t ∙ ap (λ b. cond b (Some led) (lookup (bytes_eq t) old)) (bytes_eq_swapped text t)))
    (row_more at (bytes_eq t text) paths led (lookup (bytes_eq t) done) (lookup (bytes_eq t) old) leads (so_far t))

-- the rows before the last one, and that among those that are done
pub split_last : (K : Type 0) (f : K → List ℕ) (all : ClaimRows) (entries left : List (K × List (List (List ℕ)))) (key : K) (paths : List (List (List ℕ))) (done : ClaimRows) → entries ≡ left ++ (key, paths) ∷ []
    → all ≡ map (λ (e : K × List (List (List ℕ))). (f e.0, e.1)) entries ++ done → all ≡ map (λ (e : K × List (List (List ℕ))). (f e.0, e.1)) left ++ ((f key, paths) ∷ done)
split_last K f all entries left key paths done last is =
    let shown : K × List (List (List ℕ)) → List ℕ × List (List (List ℕ)) = λ e. (f e.0, e.1) in
    is ∙ ap (λ es. map shown es ++ done) last ∙ ap (λ rows. rows ++ done) (map_push shown left (key, paths)) ∙ append_assoc (map shown left) ((f key, paths) ∷ []) done

pub split_none : {K : Type 0} (f : K → List ℕ) (all : ClaimRows) (entries : List (K × List (List (List ℕ)))) (done : ClaimRows) → length entries ≡ 0
    → all ≡ map (λ (e : K × List (List (List ℕ))). (f e.0, e.1)) entries ++ done → all ≡ done
split_none f all [] done none is = is
split_none f all (e ∷ entries) done none is = absurd (omega (arith, none))

-- nothing is left where no last one is taken away
pub none_left : {X : Type 0} (taken : Option X) (n : ℕ) → (0 < n → IsSome taken) → taken ≡ None → n ≡ 0
none_left taken zero some none = refl
none_left taken (suc n) some none = absurd (false≢true (subst IsSome none (some (omega arith))))

row_any : (at : List (List ℕ) → Option Node) (q : List (List ℕ)) (x : Bool) (old new : Option (List (List (List ℕ)))) → LeadsRow at old new → option_map_or (list_any (same_path q)) new x ≡ option_map_or (list_any (same_path q)) old x
row_any at q x None None leads = refl
row_any at q x None (Some new) leads = absurd leads
row_any at q x (Some old) None leads = absurd leads
row_any at q x (Some old) (Some new) leads = leads.paths q

row_none : (at : List (List ℕ) → Option Node) (old new : Option (List (List (List ℕ)))) → LeadsRow at old new → new ≡ None → old ≡ None
row_none at None new leads none = refl
row_none at (Some old) None leads none = absurd leads
row_none at (Some old) (Some new) leads none = cc

pub row_claims : (at : List (List ℕ) → Option Node) (old new : Option (List (List (List ℕ)))) → LeadsRow at old new → PutsLeaderFirst at (option_map_or (λ paths. paths) old []) (option_map_or (λ paths. paths) new [])
row_claims at None None leads = record { paths = λ q. refl; led = tt }
row_claims at None (Some new) leads = absurd leads
row_claims at (Some old) None leads = absurd leads
row_claims at (Some old) (Some new) leads = leads

pub none_led : (at : List (List ℕ) → Option Node) (old new : List (List (List ℕ))) → PutsLeaderFirst at old new → old ≡ [] → new ≡ []
none_led at old [] leads none = refl
none_led at old (path ∷ new) leads none =
    absurd (true≢false (sym (ap (λ b. b || list_any (same_path path) new) (same_path_self path)) ∙ leads.paths path ∙ ap (list_any (same_path path)) none))

-- ---- a change whose rows are led

pub changed_led : (at : List (List ℕ) → Option Node) (before after : List (List ℕ) → List ℕ → Bool) (old new : ClaimRows) → LeadsRows at old new → AreChanged before after old → AreChanged before after new
changed_led at before after old new leads changed t q = row_any at q (before q t) (lookup (bytes_eq t) old) (lookup (bytes_eq t) new) (leads t) ∙ changed t q

pub others_led : (tree : Content) (patch : patches.PatchEntries) (at : List (List ℕ) → Option Node) (old new : ClaimRows) → LeadsRows at old new → LeavesOthers tree patch old → LeavesOthers tree patch new
others_led tree patch at old new leads leaves t q none = leaves t q (row_none at (lookup (bytes_eq t) old) (lookup (bytes_eq t) new) (leads t) none)

pub rows_are_led : (at : List (List ℕ) → Option Node) (old new : ClaimRows) → LeadsRows at old new → AreLed at new
rows_are_led at old new leads t = (row_claims at (lookup (bytes_eq t) old) (lookup (bytes_eq t) new) (leads t)).led

-- ---- a change over an index

cmp_alike : (at other : List (List ℕ) → Option Node) (p q : List (List ℕ)) → other p ≡ at p → other q ≡ at q → cmp_by other p q ≡ cmp_by at p q
cmp_alike at other p q one two =
    ap (λ o. ordering_then (int_cmp (order_of o) (order_of (other p))) (by_name (text_of p) (text_of q))) two
    ∙ ap (λ o. ordering_then (int_cmp (order_of (at q)) (order_of o)) (by_name (text_of p) (text_of q))) one

led_alike : (at other : List (List ℕ) → Option Node) (paths : List (List (List ℕ))) → ((q : List (List ℕ)) → list_any (same_path q) paths ≡ true → other q ≡ at q) → IsLed at paths → IsLed other paths
led_alike at other [] same led = tt
led_alike at other (first ∷ paths) same led = λ q among.
    ap is_lt (cmp_alike at other q first (same q among) (same first (ap (λ b. b || list_any (same_path first) paths) (same_path_self first)))) ∙ led q among

pub led_over : (tree : Content) (patch : patches.PatchEntries) (changed old new : ClaimRows) → AreClaims (claims_vanity_path tree) old → AreLed (node_at tree) old → LeavesOthers tree patch changed → AreLed (patches.patching_at tree patch) changed
    → ((t : List ℕ) → claimants new t ≡ claimants_over changed old t) → AreLed (patches.patching_at tree patch) new
led_over tree patch changed old new claims led leaves rows is t =
    let at = patches.patching_at tree patch in
    subst (IsLed at) (sym (is t))
    (elim (lookup (bytes_eq t) changed) as (λ o. lookup (bytes_eq t) changed ≡ o → IsLed at (option_map_or (λ paths. paths) o (claimants old t))) [
      | None ↦ λ none. led_alike (node_at tree) at (claimants old t) (λ q among. leaves t q none (sym (claims t q) ∙ among)) (led t)
      | Some paths ↦ λ row. subst (IsLed at) (ap (λ o. option_map_or (λ ps. ps) o []) row) (rows t)
    ] refl)

-- by another look-up that has the same nodes
pub led_by_same : (at other : List (List ℕ) → Option Node) (rows : ClaimRows) → ((q : List (List ℕ)) → other q ≡ at q) → AreLed at rows → AreLed other rows
led_by_same at other rows same led t = led_alike at other (claimants rows t) (λ q among. same q) (led t)

-- ---- the head of the claimants

same_order : (tree : Content) (path other : List (List ℕ)) → vanity_cmp tree path other ≡ cmp_by (node_at tree) path other
unfolding vanity_order
same_order tree path other = refl

head_leads : IsReadBack → (tree : Content) (paths : List (List (List ℕ))) (first : List (List ℕ)) → ((q : List (List ℕ)) → list_any (same_path q) paths ≡ true → is_path q ≡ true) → IsLed (node_at tree) paths → slice_get paths 0 ≡ Some first → IsFirstPath tree paths first
head_leads read tree [] first valid led is = cc
head_leads read tree (path ∷ paths) first valid led is =
    let one : path ≡ first = cc in
    let here : list_any (same_path path) (path ∷ paths) ≡ true = ap (λ b. b || list_any (same_path path) paths) (same_path_self path) in
    subst (IsFirstPath tree (path ∷ paths)) one (record {
      among = here;
      first = λ other among. after_first read tree path other (valid path here) (valid other among) (ap is_lt (same_order tree other path) ∙ led other among);
    })

pub first_led : IsReadBack → (tree : Content) → IsTree (node_at tree) → (rows : ClaimRows) (text : List ℕ) (first : List (List ℕ)) → AreClaims (claims_vanity_path tree) rows → AreLed (node_at tree) rows → slice_get (claimants rows text) 0 ≡ Some first
    → IsFirstPath tree (claimants rows text) first
first_led read tree good rows text first claims led is = head_leads read tree (claimants rows text) first (vanity_valid tree good rows text claims) (led text) is

pub no_first : (paths : List (List (List ℕ))) → slice_get paths 0 ≡ None → length paths ≡ 0
no_first [] is = refl
no_first (path ∷ paths) is = cc
