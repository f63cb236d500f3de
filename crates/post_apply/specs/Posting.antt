-- What a POST makes of the content, and what it answers (Apache Sling, "SlingPostServlet").
use Rattle.std.specs.Prelude.{Bool, true, false, Option, Some, None, Ok, Err, is_none}
use Rattle.sp_base.specs.Outcomes.{◌>>=◌}
use Rattle.sp_base.specs.Texts.{Segments}
use Rattle.sp_base.specs.Paths.{path_or_none}
use Rattle.resource_tree.specs.declared.places.Place.{Place}
use Rattle.resource_tree.specs.Content.{Content, kid, node_at}
use Rattle.resource_tree.specs.Changes.{order_fault, reordering}
use Rattle.post_plan.specs.declared.operation.CarryOp.{CarryOp}
use Rattle.post_plan.specs.declared.operation.ModifyOp.{ModifyOp}
use Rattle.post_plan.specs.declared.operation.NameWish.{NameWish}
use Rattle.post_plan.specs.declared.operation.Op.{Op}
use Rattle.post_plan.specs.declared.operation.Op.TheVariants.{Nop, Delete, Copy, Move, Modify}
use Rattle.post_apply.specs.declared.report.PostReport.{PostReport}
use Rattle.post_apply.specs.Steps.{ApplyOutcome, in_turn, or_too_deep, changed_unless_fault, with_way}
use Rattle.post_apply.specs.Removals.{delete_at, removal_outcome}
use Rattle.post_apply.specs.Values.{set_at}
use Rattle.post_apply.specs.Carries.{carry_at, carry_node}
use Rattle.post_apply.specs.Names.{name_given}

-- the content after a POST that isn't refused, and its report
pub record PostEffect : Type 0 where
  pub content : Content
  pub report : PostReport

-- a content with the report of the node at a path, and whether it is new
abbrev pub posted_with_report : Bool → Segments → Content → PostEffect
posted_with_report created path content = record { content = content; report = record { created = created; path = path } }

-- ---- a node is made or modified

-- the node that a POST makes or modifies: a content in which the parent of a new one is there, and the path of the node
pub record PostedNode : Type 0 where
  pub content : Content
  pub node : Segments

-- a content and the path of the node
abbrev pub posted_node : Content → Segments → PostedNode
posted_node content node = record { content = content; node = node }

-- a new node below a target, which is made with all above it first
abbrev pub new_posted_node : Segments → NameWish → Content → ApplyOutcome PostedNode
new_posted_node target wish tree = do
  above ← with_way target tree
  path ← or_too_deep (path_or_none (kid target (name_given above target wish)))
  Ok (posted_node above path)

-- the target itself, or a new node below it
abbrev pub posted_node_of : Segments → Option NameWish → Content → ApplyOutcome PostedNode
posted_node_of target None tree = Ok (posted_node tree target)
posted_node_of target (Some wish) tree = new_posted_node target wish tree

-- the node in another place, where one is asked for
abbrev pub content_placed : Segments → Option Place → Content → ApplyOutcome Content
content_placed node None tree = Ok tree
content_placed node (Some place) tree = changed_unless_fault (order_fault tree node place) (reordering tree node place)

-- the node and all above it are made, and then come removals, moves, copies, values and the node's place
abbrev pub modify_outcome : ModifyOp → PostedNode → ApplyOutcome Content
modify_outcome op at = do
  made ← with_way at.node at.content
  less ← in_turn (delete_at at.node) op.deletes made
  moved ← in_turn (carry_at true at.node) op.moves less
  copied ← in_turn (carry_at false at.node) op.copies moved
  valued ← in_turn (set_at at.node) op.sets copied
  content_placed at.node op.place valued

-- the modified node, with its report
abbrev pub modify_at : ModifyOp → PostedNode → ApplyOutcome PostEffect
modify_at op at = modify_outcome op at >>= λ after. Ok (posted_with_report (is_none (node_at at.content at.node)) at.node after)

-- a change of the target or of a new node below it
abbrev pub modify : ModifyOp → Content → ApplyOutcome PostEffect
modify op tree = posted_node_of op.target op.fresh tree >>= modify_at op

-- ---- the operations

-- the target, taken away
abbrev pub remove : Segments → Content → ApplyOutcome PostEffect
remove path tree = removal_outcome tree path >>= λ after. Ok (posted_with_report false path after)

-- a copy, or a move
abbrev pub carry : Bool → CarryOp → Content → ApplyOutcome PostEffect
carry moves op tree = carry_node moves op.replace op.from op.to tree >>= λ after. Ok (posted_with_report (is_none (node_at tree op.to)) op.to after)

-- what a POST gives, or the first cause for which it is refused
abbrev pub post_outcome : Op → Content → ApplyOutcome PostEffect
post_outcome (Nop path) tree = Ok (posted_with_report false path tree)
post_outcome (Delete path) tree = remove path tree
post_outcome (Copy op) tree = carry false op tree
post_outcome (Move op) tree = carry true op tree
post_outcome (Modify op) tree = modify op tree

-- the content after a POST: as before where it is refused
abbrev pub content_after_post : Content → ApplyOutcome PostEffect → Content
content_after_post tree (Ok done) = done.content
content_after_post tree (Err fault) = tree

-- the same for an operation
abbrev pub content_after : Op → Content → Content
content_after op tree = content_after_post tree (post_outcome op tree)
