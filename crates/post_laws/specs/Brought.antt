-- What a copy or a move leaves at its two ends (Apache Sling, "SlingPostServlet", `:operation=copy` and `:operation=move`).
use Rattle.std.specs.Prelude.{◌≡◌, ◌++◌, IfOk, None}
use Rattle.sp_base.specs.Texts.{Segments}
use Rattle.resource_tree.specs.Content.{Content, IsGood, node_at}
use Rattle.post_plan.specs.declared.operation.CarryOp.{CarryOp}
use Rattle.post_plan.specs.declared.operation.Op.TheVariants.{Copy, Move}
use Rattle.post_apply.specs.Posting.{post_outcome}

-- what stood at a path and under it stands at another: the same nodes, with the same properties and the same kids in their order
abbrev pub HasWhatStoodAt : Segments → Content → Segments → Content → Type 0
HasWhatStoodAt from tree to after = (rest : Segments) → node_at after (to ++ rest) ≡ node_at tree (from ++ rest)

-- no node is at a path or under it
abbrev pub HasNoNodes : Segments → Content → Type 0
HasNoNodes path after = (rest : Segments) → node_at after (path ++ rest) ≡ None

-- after a copy that isn't refused there is at the goal what stood at the source
abbrev pub CopiesBringTheirSource : Type 0
CopiesBringTheirSource = (op : CarryOp) (tree : Content) → IsGood tree → IfOk (post_outcome (Copy op) tree) (λ done. HasWhatStoodAt op.from tree op.to done.content)

-- and at the source still
abbrev pub CopiesLeaveTheirSource : Type 0
CopiesLeaveTheirSource = (op : CarryOp) (tree : Content) → IsGood tree → IfOk (post_outcome (Copy op) tree) (λ done. HasWhatStoodAt op.from tree op.from done.content)

-- after a move that isn't refused there is at the goal what stood at the source
abbrev pub MovesBringTheirSource : Type 0
MovesBringTheirSource = (op : CarryOp) (tree : Content) → IsGood tree → IfOk (post_outcome (Move op) tree) (λ done. HasWhatStoodAt op.from tree op.to done.content)

-- and nothing at the source
abbrev pub MovesEmptyTheirSource : Type 0
MovesEmptyTheirSource = (op : CarryOp) (tree : Content) → IsGood tree → IfOk (post_outcome (Move op) tree) (λ done. HasNoNodes op.from done.content)
