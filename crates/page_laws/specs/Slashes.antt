-- What a slash at the end of a path changes.
use Rattle.std.specs.Prelude.{◌≡◌, Bool, true}
use Rattle.sp_base.specs.declared.answer.Ask.{Ask}
use Rattle.resource_tree.specs.Content.{Content}
use Rattle.publisher.specs.Rendering.{answer_to_request, is_read}

-- what a GET or HEAD is answered is the same with a slash at the path's end and without one
abbrev pub ReadsAreAnsweredAlike : Type 0
ReadsAreAnsweredAlike = (tree : Content) (ask : Ask) (slash : Bool) → is_read ask.method ≡ true
    → answer_to_request tree (record ask { slash = slash }) ≡ answer_to_request tree ask
