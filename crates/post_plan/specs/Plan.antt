-- The operation that a POST asks for, or its first fault (Apache Sling, "SlingPostServlet").
use Rattle.std.specs.Prelude.{◌==◌, ◌&&◌, ◌||◌, ◌^◌, ℕ, Bool, true, false, not, nat_eq, nat_lt, if◌then◌else◌, List, [], ◌∷◌, Option, Some, None, is_none, option_map, unwrap_or, Result, Ok, Err, codes, length, drop}
use Rattle.std.specs.List.{starts_with}
use Rattle.std.specs.Str.{bytes_eq, all_ascii_digits}
use Rattle.std.specs.Str.Parse.{digits_value}
use Rattle.sp_base.specs.Texts.{Segments, Pairs}
use Rattle.form_input.specs.Multipart.{first_some}
use Rattle.sp_base.specs.Paths.{seg_ok, text_of}
use Rattle.resource_tree.specs.declared.places.Place.{Place}
use Rattle.resource_tree.specs.declared.places.Place.TheVariants.{First, Last, Before, After, At}
use Rattle.resource_tree.specs.MergeRoots.{is_merged_path}
use Rattle.post_plan.specs.declared.fault.PlanFault.{PlanFault}
use Rattle.post_plan.specs.declared.fault.PlanFault.TheVariants.{BadOperation, NoDest, BadOrder, BadPath}
use Rattle.post_plan.specs.declared.verb.Verb.{Verb}
use Rattle.post_plan.specs.declared.verb.Verb.TheVariants.{Modify, Delete, Copy, Move, Nop}
use Rattle.post_plan.specs.declared.suffix.Suffix.{Suffix}
use Rattle.post_plan.specs.declared.suffix.Suffix.TheVariants.{MoveFrom, CopyFrom}
use Rattle.post_plan.specs.declared.operation.Op.{Op}
use Rattle.post_plan.specs.declared.operation.Op.TheVariants.{Modify as ModifyOperation, Delete as DeleteOperation, Copy as CopyOperation, Move as MoveOperation, Nop as NopOperation}
use Rattle.post_plan.specs.declared.operation.ModifyOp.{ModifyOp}
use Rattle.post_plan.specs.declared.operation.CarryOp.{CarryOp}
use Rattle.post_plan.specs.declared.operation.NameWish.{NameWish}
use Rattle.post_plan.specs.Parameters.{first_word, any_marked, is_content, path_text, parameter_suffix}
use Rattle.post_plan.specs.Hints.{hint_fault}
use Rattle.post_plan.specs.Spots.{spot_of, goal_of, under}
use Rattle.post_plan.specs.NewNames.{wish_of, wished_name}
use Rattle.post_plan.specs.Entries.{Entry, entries, deleted_spots, carries, sets}

-- what `:operation` asks for; without it a node is changed
abbrev pub verb_named : List ℕ → Option Verb
verb_named word = if bytes_eq word (codes "delete") then Some Delete
    else (if bytes_eq word (codes "copy") then Some Copy
    else (if bytes_eq word (codes "move") then Some Move
    else (if bytes_eq word (codes "nop") then Some Nop else None)))

-- the operation of a word, or a change without one
abbrev pub verb_by : Option (List ℕ) → Option Verb
verb_by None = Some Modify
verb_by (Some word) = verb_named word

-- what the parameters ask for
abbrev pub verb_of : Pairs → Option Verb
verb_of pairs = verb_by (first_word (codes ":operation") pairs)

-- whether that copies or moves the node
abbrev pub carries_node : Option Verb → Bool
carries_node (Some Copy) = true
carries_node (Some Move) = true
carries_node _ = false

-- whether that changes the node
abbrev pub is_modify : Option Verb → Bool
is_modify (Some Modify) = true
is_modify _ = false

-- the word of `:dest`, or an empty one
abbrev pub dest_word : Pairs → List ℕ
dest_word pairs = unwrap_or (first_word (codes ":dest") pairs) []

-- whether `:replace` is `true`
abbrev pub replaces : Pairs → Bool
replaces pairs = bytes_eq (unwrap_or (first_word (codes ":replace") pairs) []) (codes "true")

-- decimal digits without a leading zero
abbrev pub is_numeral : List ℕ → Bool
is_numeral word = all_ascii_digits word && (not (length word == 0) && (length word == 1 || not (starts_with nat_eq word (codes "0"))))

-- a number within 64 bits
abbrev pub place_number : List ℕ → Option ℕ
place_number word = if is_numeral word && nat_lt (digits_value 10 word) (2 ^ 64) then Some (digits_value 10 word) else None

-- the place of a number
abbrev pub place_at : Option ℕ → Option Place
place_at None = None
place_at (Some n) = Some (At n)

-- the place before a sibling, where the name is one that a path may have
abbrev pub place_before : List ℕ → Option Place
place_before name = if seg_ok name then Some (Before name) else None

-- the place after a sibling, where the name is one that a path may have
abbrev pub place_after : List ℕ → Option Place
place_after name = if seg_ok name then Some (After name) else None

-- the place that `:order` names
abbrev pub place_named : List ℕ → Option Place
place_named word = if bytes_eq word (codes "first") then Some First
    else (if bytes_eq word (codes "last") then Some Last
    else (if starts_with nat_eq word (codes "before ") then place_before (drop 7 word)
    else (if starts_with nat_eq word (codes "after ") then place_after (drop 6 word) else place_at (place_number word))))

-- the place of a word, where there is one
abbrev pub place_by : Option (List ℕ) → Option Place
place_by None = None
place_by (Some word) = place_named word

-- the place that the parameters ask for
abbrev pub order_place : Pairs → Option Place
order_place pairs = place_by (first_word (codes ":order") pairs)

-- whether a word is there that names no place
abbrev pub is_bad_order : Option (List ℕ) → Bool
is_bad_order None = false
is_bad_order (Some word) = is_none (place_named word)

-- the name of the new node, where one is wished and nothing but a change is asked for
abbrev pub fresh_wish : Bool → Pairs → Option NameWish
fresh_wish star pairs = if star && is_modify (verb_of pairs) then Some (wish_of pairs) else None

-- the node that names are relative to: the target, or the new node under it
abbrev pub relative_node : Segments → Bool → Pairs → Segments
relative_node target star pairs = under target (option_map wished_name (fresh_wish star pairs))

-- whether the parameter's word names what is copied or moved
abbrev pub names_source : Option Suffix → Bool
names_source (Some MoveFrom) = true
names_source (Some CopyFrom) = true
names_source _ = false

-- the text of a content parameter that names nothing that may be changed: its name's path, else its source
abbrev pub bad_entry : Segments → List ℕ × List ℕ → Option (List ℕ)
bad_entry node p = if is_none (spot_of node (path_text p.0)) then Some (path_text p.0)
    else (if names_source (parameter_suffix p.0) && is_none (spot_of node p.1) then Some p.1 else None)

-- the goal of a copy or a move is no path
abbrev pub is_bad_dest : Segments → Pairs → Bool
is_bad_dest target pairs = carries_node (verb_of pairs) && is_none (goal_of target (dest_word pairs))

-- the name of a new node is none that a path may have
abbrev pub is_bad_wish : Option NameWish → Bool
is_bad_wish None = false
is_bad_wish (Some wish) = not (seg_ok (wished_name wish))

-- the same of any parameter; of control parameters `:dest` and `:name` count, each where it is bad
abbrev pub bad_text : Segments → Bool → Bool → Bool → List ℕ × List ℕ → Option (List ℕ)
bad_text node bad_dest bad_name marked p = if bytes_eq p.0 (codes ":dest") then (if bad_dest then Some p.1 else None)
    else (if bytes_eq p.0 (codes ":name") then (if bad_name then Some p.1 else None) else (if is_content marked p.0 then bad_entry node p else None))

-- the first bad text of parameters
unfoldable pub first_bad : (List ℕ × List ℕ → Option (List ℕ)) → Pairs → Option (List ℕ)
first_bad bad [] = None
first_bad bad (p ∷ more) = first_some (bad p) (first_bad bad more)

-- a fault, where something is bad
abbrev pub if_fault : Bool → PlanFault → Option PlanFault
if_fault bad fault = if bad then Some fault else None

-- the node itself stands first, then the parameters in their order
abbrev pub path_fault : Segments → Bool → Pairs → Option PlanFault
path_fault target star pairs = if is_merged_path (relative_node target star pairs) then Some (BadPath (text_of (relative_node target star pairs)))
    else option_map BadPath (first_bad (bad_text (relative_node target star pairs) (is_bad_dest target pairs) (is_bad_wish (fresh_wish star pairs)) (any_marked pairs)) pairs)

-- the first fault that is there
abbrev pub first_plan_fault : List (Option PlanFault) → Option PlanFault
first_plan_fault [] = None
first_plan_fault (None ∷ more) = first_plan_fault more
first_plan_fault (Some fault ∷ more) = Some fault

-- the faults in the order of their kinds
abbrev pub faults : Segments → Bool → Pairs → List (Option PlanFault)
faults target star pairs = if_fault (is_none (verb_of pairs)) BadOperation
    ∷ if_fault (carries_node (verb_of pairs) && length (dest_word pairs) == 0) NoDest
    ∷ if_fault (is_bad_order (first_word (codes ":order") pairs)) BadOrder
    ∷ hint_fault pairs
    ∷ path_fault target star pairs ∷ []

-- the change of a node that entries ask for
abbrev pub modify_of : Segments → Bool → Pairs → List Entry → Segments → ModifyOp
modify_of target star pairs es node = record {
  target = target;
  fresh = fresh_wish star pairs;
  deletes = deleted_spots es;
  moves = carries node MoveFrom es;
  copies = carries node CopyFrom es;
  sets = sets pairs es;
  place = order_place pairs;
}

-- the change of the target, or of a new node under it, that the parameters ask for
abbrev pub modification : Segments → Bool → Pairs → ModifyOp
modification target star pairs = modify_of target star pairs (entries (relative_node target star pairs) pairs) (relative_node target star pairs)

-- the copy or the move of the target that the parameters ask for
abbrev pub carry_operation : Segments → Pairs → CarryOp
carry_operation target pairs = record { from = target; to = unwrap_or (goal_of target (dest_word pairs)) []; replace = replaces pairs }

-- the operation that the parameters ask for
abbrev pub operation_by : Option Verb → Segments → Bool → Pairs → Op
operation_by None target star pairs = NopOperation target
operation_by (Some Modify) target star pairs = ModifyOperation (modification target star pairs)
operation_by (Some Delete) target star pairs = DeleteOperation target
operation_by (Some Copy) target star pairs = CopyOperation (carry_operation target pairs)
operation_by (Some Move) target star pairs = MoveOperation (carry_operation target pairs)
operation_by (Some Nop) target star pairs = NopOperation target

-- the operation, or the fault that is there
abbrev pub operation_unless_fault : Option PlanFault → Op → Result Op PlanFault
operation_unless_fault (Some fault) operation = Err fault
operation_unless_fault None operation = Ok operation

-- the operation that a form asks for at a target; `star` asks for a new node under the target
abbrev pub plan_of : Segments → Bool → Pairs → Result Op PlanFault
plan_of target star pairs = operation_unless_fault (first_plan_fault (faults target star pairs)) (operation_by (verb_of pairs) target star pairs)
