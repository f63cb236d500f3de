-- Readings that are forgotten with the texts that a patch changes.
use Rattle.std.proofs.Common.{◌≡◌, ◌+◌, ◌∷◌, [], ℕ, Bool, true, false, cond, List, Option, Some, None, take, refl, sym, ◌∙◌, ap}
use Rattle.std.specs.Prelude.{option_and_then, option_map, slice_get, codes, nat_eq}
use Rattle.std.specs.Cmp.Lexicographic.{pointwise}
use Rattle.std.specs.List.{list_any}
use Rattle.std.specs.Map.{lookup}
use Rattle.std.proofs.lemmas.Bool.{false_from_ne_true, or_from, or_parts, true≢false}
use Rattle.std.proofs.lemmas.Option.{none-some}
use Rattle.sp_base.specs.Paths.{fault_of, parent_of, unless_fault}
use Rattle.sp_base.specs.Properties.{text_in}
use Rattle.sp_base.specs.declared.path.PathFault.{PathFault}
use Rattle.sp_base.proofs.ListLemmas.{any_next}
use Rattle.resource_tree.specs.Content.{Content, name_of, node_at, same_path}
use Rattle.resource_tree.specs.Patches.{PatchEntries, left_by, patching_at}
use Rattle.resource_tree.specs.declared.nodes.Node.{Node}
use Rattle.resource_tree.specs.declared.patch.PatchNode.{PatchNode}
use Rattle.resource_tree.proofs.PathLemmas.{name_of-kid, parent_of-kid, path_from_same, same_path_self}
use Rattle.script_rank.specs.Ranking.{node_of, script_text}
use Rattle.script_rank.specs.Noting.{text_path}
use Rattle.publisher.specs.declared.templates.Reading.{Reading}
use Rattle.publisher.specs.Kept.{AreAmong, AreReadings, AreUnpatched, KeptReadings, reading_at}
use Rattle.publisher.specs.Readings.{reading_of}

-- ---- one script is forgotten

among_by : (b : Bool) (old : Option Reading) (reading : Reading) → cond b None old ≡ Some reading → (b ≡ false) × (old ≡ Some reading)
among_by true old reading e = absurd (none-some reading e)
among_by false old reading e = (refl, e)

-- the readings but the one of a script
abbrev pub IsWithout : KeptReadings → KeptReadings → List (List ℕ) → Type 0
IsWithout old new script = (path : List (List ℕ)) → reading_at new path ≡ cond (same_path script path) None (reading_at old path)

-- the script whose text stands at a path is forgotten
pub text_without : (old new : KeptReadings) (at path : List (List ℕ)) (reading : Reading) → IsWithout old new (parent_of at) → reading_at new path ≡ Some reading → same_path (text_path path) at ≡ false
text_without old new at path reading is e =
    let apart = (among_by (same_path (parent_of at) path) (reading_at old path) reading (sym (is path) ∙ e)).0 in
    false_from_ne_true (same_path (text_path path) at) (λ same.
    let one : parent_of at ≡ path = sym (ap parent_of (path_from_same (text_path path) at same)) ∙ parent_of-kid path (codes "jcr:content") in
    true≢false (sym (same_path_self path) ∙ ap (λ p. same_path p path) (sym one) ∙ apart))

-- no script's text stands at a path with another name
pub not_a_text : (at path : List (List ℕ)) → pointwise nat_eq (name_of at) (codes "jcr:content") ≡ false → same_path (text_path path) at ≡ false
not_a_text at path other =
    false_from_ne_true (same_path (text_path path) at) (λ same.
    let name : name_of at ≡ codes "jcr:content" = sym (ap name_of (path_from_same (text_path path) at same)) ∙ name_of-kid path (codes "jcr:content") in
    true≢false (sym (ap (λ n. pointwise nat_eq n (codes "jcr:content")) name) ∙ other))

-- ---- those of a patch are forgotten, entry by entry

-- no reading is kept of a script at whose text one of some entries stands
abbrev pub AreClear : PatchEntries → KeptReadings → Type 0
AreClear entries kept = (path : List (List ℕ)) (reading : Reading) → reading_at kept path ≡ Some reading → list_any (λ (entry : List (List ℕ) × PatchNode). same_path (text_path path) entry.0) entries ≡ false

-- the readings after some entries of a patch
pub record Forgets (first : KeptReadings) (entries : PatchEntries) (kept : KeptReadings) : Type 0 where
  pub among : AreAmong first kept
  pub clear : AreClear entries kept

pub forgets_none : (kept : KeptReadings) → Forgets kept [] kept
forgets_none kept = record { among = λ path reading e. e; clear = λ path reading e. refl }

pub forgets_next : (first old new : KeptReadings) (patch : PatchEntries) (i : ℕ) (at : List (List ℕ)) (entry : PatchNode) → slice_get patch i ≡ Some (at, entry) → Forgets first (take i patch) old → AreAmong old new
    → ((path : List (List ℕ)) (reading : Reading) → reading_at new path ≡ Some reading → same_path (text_path path) at ≡ false) → Forgets first (take (i + 1) patch) new
forgets_next first old new patch i at entry is so_far fewer forgotten = record {
  among = λ path reading e. so_far.among path reading (fewer path reading e);
  clear = λ path reading e.
      let test = λ (r : List (List ℕ) × PatchNode). same_path (text_path path) r.0 in
      any_next test patch i (at, entry) is ∙ or_from (list_any test (take i patch)) (test (at, entry)) (so_far.clear path reading (fewer path reading e)) (forgotten path reading e);
}

lookup_of_none : (test : List (List ℕ) → Bool) (entries : PatchEntries) → list_any (λ (entry : List (List ℕ) × PatchNode). test entry.0) entries ≡ false → lookup test entries ≡ None
lookup_of_none test [] none = refl
lookup_of_none test (entry ∷ entries) none =
    let parts = or_parts (test entry.0) (list_any (λ (r : List (List ℕ) × PatchNode). test r.0) entries) none in
    ap (λ b. cond b (Some entry.1) (lookup test entries)) parts.0 ∙ lookup_of_none test entries parts.1

pub unpatched : (patch : PatchEntries) (kept : KeptReadings) → AreClear patch kept → AreUnpatched patch kept
unpatched patch kept clear path reading e = lookup_of_none (same_path (text_path path)) patch (clear path reading e)

-- ---- a script whose text stays is read as before

node_of_text : (tree after : Content) (segs : List (List ℕ)) (fault : Option PathFault) → node_at after segs ≡ node_at tree segs → node_of after (unless_fault fault segs) ≡ node_of tree (unless_fault fault segs)
node_of_text tree after segs None same = same
node_of_text tree after segs (Some fault) same = refl

same_script : (tree after : Content) (path : List (List ℕ)) → node_at after (text_path path) ≡ node_at tree (text_path path) → script_text after path ≡ script_text tree path
unfolding script_text
same_script tree after path same =
    ap (option_and_then (λ (node : Node). text_in node.props (codes "jcr:data"))) (node_of_text tree after (text_path path) (fault_of (text_path path)) same)

pub still_readings : (tree after : Content) (patch : PatchEntries) (old new : KeptReadings) → AreReadings tree old → AreAmong old new → AreUnpatched patch new
    → ((path : List (List ℕ)) → node_at after path ≡ patching_at tree patch path) → AreReadings after new
still_readings tree after patch old new are fewer clear look_ups path reading e =
    let same : node_at after (text_path path) ≡ node_at tree (text_path path) = look_ups (text_path path) ∙ ap (λ o. left_by o (node_at tree (text_path path))) (clear path reading e) in
    ap (option_map reading_of) (same_script tree after path same) ∙ are path reading (fewer path reading e)
