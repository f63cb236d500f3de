-- How many nodes content has, and how deep they stand.
use Rattle.std.proofs.Common.{◌≡◌, ℕ, suc, ◌<◌, ◌-◌, ◌==◌, Bool, true, false, List, [], if◌then◌else◌, length, length-append, refl, ap, ◌∙◌}
use Rattle.std.proofs.lemmas.Bool.{or_parts}
use Rattle.sp_base.proofs.NatLemmas.{positive}
use Rattle.serde_json.specs.Data.{Data, null, boolean, number, string, array, object, Members, no_members, member}
use Rattle.resource_tree.specs.Content.{Content, kid}
use Rattle.content_json.specs.Names.{is_order}
use Rattle.content_json.specs.Nodes.{nodes_in, nodes_below, count_in, count_below, is_deeper, is_deeper_below}

length_unless : (b : Bool) (nodes : Content) (n : ℕ) → length nodes ≡ n → length (if b then [] else nodes) ≡ (if b then 0 else n)
length_unless true nodes n h = refl
length_unless false nodes n h = h

-- there are as many nodes as are counted
mutual
  pub length-nodes_in : (path : List (List ℕ)) (d : Data) → length (nodes_in path d) ≡ count_in d
  length-nodes_in path null = refl
  length-nodes_in path (boolean b) = refl
  length-nodes_in path (number n) = refl
  length-nodes_in path (string s) = refl
  length-nodes_in path (array ds) = refl
  length-nodes_in path (object ms) = ap (λ n. suc n) (length-nodes_below path ms)

  length-nodes_below : (path : List (List ℕ)) (ms : Members) → length (nodes_below path ms) ≡ count_below ms
  length-nodes_below path no_members = refl
  length-nodes_below path (member name d ms) =
      length-append (if is_order name then [] else nodes_in (kid path name) d) (nodes_below path ms)
      ∙ rw (length_unless (is_order name) (nodes_in (kid path name) d) (count_in d) (length-nodes_in (kid path name) d), length-nodes_below path ms) refl

pub shallow_first : (levels : ℕ) (name : List ℕ) (d : Data) (ms : Members) → is_deeper_below levels (member name d ms) ≡ false → (if is_order name then false else is_deeper levels d) ≡ false
shallow_first levels name d ms h = (or_parts (if is_order name then false else is_deeper levels d) (is_deeper_below levels ms) h).0

pub shallow_rest : (levels : ℕ) (name : List ℕ) (d : Data) (ms : Members) → is_deeper_below levels (member name d ms) ≡ false → is_deeper_below levels ms ≡ false
shallow_rest levels name d ms h = (or_parts (if is_order name then false else is_deeper levels d) (is_deeper_below levels ms) h).1

-- an object has a level left for its node
pub object_fits : (levels : ℕ) (ms : Members) → is_deeper levels (object ms) ≡ false → (0 < levels) × (is_deeper_below (levels - 1) ms ≡ false)
object_fits levels ms h = let parts = or_parts (levels == 0) (is_deeper_below (levels - 1) ms) h in (positive levels parts.0, parts.1)
