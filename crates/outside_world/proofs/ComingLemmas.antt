-- Happenings one by one: which may come, and which connections they open.
use Rattle.std.proofs.Common.{◌≡◌, ◌<◌, ◌+◌, ◌++◌, ℕ, false, List, [], ◌∷◌, Some, sym, ◌∙◌, ap, subst, map, take, drop, length}
use Rattle.std.specs.Prelude.{slice_index_or}
use Rattle.std.proofs.lemmas.List.{append-nil, append_assoc, drop_more, map_more, take_more}
use Rattle.connection_ids.specs.Ids.{ConnectionId}
use Rattle.outside_world.specs.declared.world.Happening.{Happening}
use Rattle.outside_world.specs.declared.world.WorldEntry.TheVariants.{Came}
use Rattle.outside_world.specs.Worlds.{IsNewsTo, is_connected, open_after_news}
use Rattle.outside_world.specs.Comings.{MayComeAfter}
use Rattle.outside_world.proofs.Openings.{open_more}

-- which connections are open after one happening more
pub opened_more : (c : ConnectionId) (happenings : List Happening) (i : ℕ) (h : Happening) → i < length happenings → h ≡ slice_index_or happenings i h
    → is_connected (map Came (take (i + 1) happenings)) c ≡ open_after_news c (is_connected (map Came (take i happenings)) c) h
opened_more c happenings i h lt is =
    ap (λ log. is_connected log c) (map_more Came happenings i h lt ∙ ap (λ x. map Came (take i happenings) ++ Came x ∷ []) (sym is))
    ∙ open_more c false (map Came (take i happenings)) (Came h)

-- those from a place on may come exactly where the first of them is news and the others may come after it
pub first_and_others : (happenings : List Happening) (i : ℕ) (h : Happening) → i < length happenings → h ≡ slice_index_or happenings i h
    → MayComeAfter (take i happenings) (drop i happenings) → IsNewsTo (Some (map Came (take i happenings))) h × MayComeAfter (take (i + 1) happenings) (drop (i + 1) happenings)
first_and_others happenings i h lt is may =
    let both = subst (MayComeAfter (take i happenings)) (drop_more happenings i h lt ∙ ap (λ x. x ∷ drop (i + 1) happenings) (sym is)) may in
    (both.0, subst (λ before. MayComeAfter before (drop (i + 1) happenings)) (ap (λ x. take i happenings ++ x ∷ []) is ∙ sym (take_more happenings i h lt)) both.1)

pub from_first_and_others : (happenings : List Happening) (i : ℕ) (h : Happening) → i < length happenings → h ≡ slice_index_or happenings i h
    → IsNewsTo (Some (map Came (take i happenings))) h → MayComeAfter (take (i + 1) happenings) (drop (i + 1) happenings) → MayComeAfter (take i happenings) (drop i happenings)
from_first_and_others happenings i h lt is news may =
    subst (MayComeAfter (take i happenings)) (sym (drop_more happenings i h lt ∙ ap (λ x. x ∷ drop (i + 1) happenings) (sym is)))
    (news, subst (λ before. MayComeAfter before (drop (i + 1) happenings)) (sym (ap (λ x. take i happenings ++ x ∷ []) is ∙ sym (take_more happenings i h lt))) may)

-- each of those that may come is news after all before it
pub is_news_at : (first before later : List Happening) (h : Happening) → MayComeAfter first (before ++ h ∷ later) → IsNewsTo (Some (map Came (first ++ before))) h
is_news_at first [] later h may = subst (λ came. IsNewsTo (Some (map Came came)) h) (sym (append-nil first)) may.0
is_news_at first (one ∷ before) later h may = subst (λ came. IsNewsTo (Some (map Came came)) h) (append_assoc first (one ∷ []) before) (is_news_at (first ++ one ∷ []) before later h may.1)
