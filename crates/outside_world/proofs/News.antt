-- What is to come stays news, whatever was done beside.
use Rattle.std.proofs.Common.{◌≡◌, ◌++◌, ◌==◌, ℕ, Bool, true, false, cond, zero, suc, List, [], ◌∷◌, None, Some, refl, sym, ◌∙◌, ap, subst, map, drop}
use Rattle.std.specs.Option.{unwrap_or}
use Rattle.std.specs.Prelude.{slice_get, slice_index_or}
use Rattle.std.proofs.lemmas.Grind.{flat_map-append}
use Rattle.std.proofs.lemmas.Option.{get_or_from_slice_get, unwrap_or-slice_get}
use Rattle.connection_ids.specs.Ids.{ConnectionId}
use Rattle.outside_world.specs.declared.world.Happening.{Happening}
use Rattle.outside_world.specs.declared.world.Happening.TheVariants.{Opened, Piece, Gone, Quiet}
use Rattle.outside_world.specs.declared.world.WorldEntry.{WorldEntry}
use Rattle.outside_world.specs.declared.world.WorldEntry.TheVariants.{Came, Sent, Unsent, Shut}
use Rattle.outside_world.specs.Worlds.{HasFreeNumber, IsNewsTo, open_after_all, open_after_news}
use Rattle.outside_world.specs.Comings.{MayComeAfter, news_of, news_of_entry}
use Rattle.outside_world.specs.WorldMemory.{first_coming}

still_none : (c d : ConnectionId) (a b : Bool) → (b ≡ false → a ≡ false) → cond (d == c) false b ≡ false → cond (d == c) false a ≡ false
still_none c d a b less = elim (d == c) as (λ t. cond t false b ≡ false → cond t false a ≡ false) [ true ↦ λ h. refl | false ↦ less ]

both_after : (c : ConnectionId) (a b : Bool) → (b ≡ false → a ≡ false) → (h : Happening) → open_after_news c b h ≡ false → open_after_news c a h ≡ false
both_after c a b less (Opened d peer) = elim (d == c) as (λ t. cond t true b ≡ false → cond t true a ≡ false) [ true ↦ λ h. h | false ↦ less ]
both_after c a b less (Piece d bytes) = less
both_after c a b less (Gone d) = still_none c d a b less
both_after c a b less Quiet = less

shut_less : (c d : ConnectionId) (a b : Bool) → (b ≡ false → a ≡ false) → b ≡ false → cond (d == c) false a ≡ false
shut_less c d a b less none = elim (d == c) as (λ t. cond t false a ≡ false) [ true ↦ refl | false ↦ less none ]

-- what isn't open after what came alone isn't open after the whole log
pub no_more_open : (c : ConnectionId) (a b : Bool) → (b ≡ false → a ≡ false) → (log : List WorldEntry) → open_after_all c b (map Came (news_of log)) ≡ false → open_after_all c a log ≡ false
no_more_open c a b less [] = less
no_more_open c a b less (Came h ∷ log) = no_more_open c (open_after_news c a h) (open_after_news c b h) (both_after c a b less h) log
no_more_open c a b less (Sent d bytes ∷ log) = no_more_open c a b less log
no_more_open c a b less (Unsent d ∷ log) = no_more_open c a b less log
no_more_open c a b less (Shut d ∷ log) = no_more_open c (cond (d == c) false a) b (shut_less c d a b less) log

free_in_log : (log : List WorldEntry) (h : Happening) → HasFreeNumber (map Came (news_of log)) h → HasFreeNumber log h
free_in_log log (Opened c peer) free = no_more_open c false false (λ e. e) log free
free_in_log log (Piece c bytes) free = tt
free_in_log log (Gone c) free = tt
free_in_log log Quiet free = tt

-- the first that comes is news to the log
pub first_is_news : (log : List WorldEntry) (coming : List Happening) (h : Happening) → MayComeAfter (news_of log) coming → h ≡ first_coming coming → IsNewsTo (Some log) h
first_is_news log [] h may is = subst (IsNewsTo (Some log)) (sym is) (record { size = tt; number = tt })
first_is_news log (first ∷ later) h may is = subst (IsNewsTo (Some log)) (sym is) (record { size = may.0.size; number = free_in_log log first may.0.number })

-- after it has come, the others may come
pub others_may_come : (log : List WorldEntry) (coming : List Happening) (h : Happening) → MayComeAfter (news_of log) coming → h ≡ first_coming coming
    → MayComeAfter (news_of (log ++ Came h ∷ [])) (drop 1 coming)
others_may_come log [] h may is = tt
others_may_come log (first ∷ later) h may is = subst (λ before. MayComeAfter before later) (sym (flat_map-append news_of_entry log (Came h ∷ []) ∙ ap (λ x. news_of log ++ x ∷ []) is)) may.1

get_or_first : (n : ℕ) (happenings : List Happening) → slice_index_or happenings n Quiet ≡ first_coming (drop n happenings)
get_or_first zero [] = refl
get_or_first zero (h ∷ later) = refl
get_or_first (suc n) [] = refl
get_or_first (suc n) (h ∷ later) = get_or_first n later

-- what stands at a place is the first that comes from there on
pub first_is : (happenings : List Happening) (n : ℕ) (h : Happening) → slice_get happenings n ≡ Some h → h ≡ first_coming (drop n happenings)
first_is happenings n h is = sym (get_or_from_slice_get happenings n h Quiet is) ∙ get_or_first n happenings

-- where nothing stands, nothing comes
pub first_is_quiet : (happenings : List Happening) (n : ℕ) → slice_get happenings n ≡ None → Quiet ≡ first_coming (drop n happenings)
first_is_quiet happenings n is = sym (ap (λ o. unwrap_or o Quiet) is) ∙ unwrap_or-slice_get happenings n Quiet ∙ get_or_first n happenings
