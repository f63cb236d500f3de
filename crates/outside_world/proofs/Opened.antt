-- A connection is open exactly where its opening stands in the log and no end after it.
use Rattle.std.proofs.Common.{◌≡◌, ◌++◌, ◌==◌, ◌||◌, ◌⊎◌, inl, inr, ℕ, Bool, true, false, cond, List, [], ◌∷◌, refl, sym, ◌∙◌, ap}
use Rattle.std.proofs.lemmas.Bool.{true≢false, eqb-true}
use Rattle.std.specs.List.{list_any}
use Rattle.sp_base.proofs.NatLemmas.{nat_eq_itself}
use Rattle.connection_ids.specs.Ids.{ConnectionId}
use Rattle.outside_world.specs.declared.world.Happening.TheVariants.{Opened, Piece, Gone, Quiet}
use Rattle.outside_world.specs.declared.world.WorldEntry.{WorldEntry}
use Rattle.outside_world.specs.declared.world.WorldEntry.TheVariants.{Came, Sent, Unsent, Shut}
use Rattle.outside_world.specs.Worlds.{HasOpening, ends_connection, is_connected, open_after, open_after_all}

-- no end of the connection stands in the log, and it was open before
abbrev StayedOpen : ConnectionId → Bool → List WorldEntry → Type 0
StayedOpen c was log = (was ≡ true) × (list_any (ends_connection c) log ≡ false)

-- where it opens, or else was open and goes on
opens : (c d : ConnectionId) (was : Bool) (peer : List ℕ) (log : List WorldEntry) → cond (d == c) true was ≡ true → list_any (ends_connection c) log ≡ false
    → HasOpening (Came (Opened d peer) ∷ log) c ⊎ StayedOpen c was (Came (Opened d peer) ∷ log)
opens c d was peer log w endless =
    elim (d == c) as (λ t. (d == c) ≡ t → cond t true was ≡ true → HasOpening (Came (Opened d peer) ∷ log) c ⊎ StayedOpen c was (Came (Opened d peer) ∷ log)) [
      | true ↦ λ same w. inl (record { before = []; peer = peer; later = log; is = ap (λ n. Came (Opened n peer) ∷ log) (eqb-true d c same); endless = endless })
      | false ↦ λ other w. inr (w, endless)
    ] refl w

not_ended : (c d : ConnectionId) (was : Bool) (log : List WorldEntry) → cond (d == c) false was ≡ true → list_any (ends_connection c) log ≡ false → (was ≡ true) × ((d == c || list_any (ends_connection c) log) ≡ false)
not_ended c d was log w endless =
    elim (d == c) as (λ t. cond t false was ≡ true → (was ≡ true) × ((t || list_any (ends_connection c) log) ≡ false)) [
      | true ↦ λ w. absurd (true≢false (sym w))
      | false ↦ λ w. (w, endless)
    ] w

one_entry : (c : ConnectionId) (was : Bool) (entry : WorldEntry) (log : List WorldEntry) → StayedOpen c (open_after c was entry) log → HasOpening (entry ∷ log) c ⊎ StayedOpen c was (entry ∷ log)
one_entry c was (Came (Opened d peer)) log stayed = opens c d was peer log stayed.0 stayed.1
one_entry c was (Came (Piece d bytes)) log stayed = inr stayed
one_entry c was (Came (Gone d)) log stayed = inr (not_ended c d was log stayed.0 stayed.1)
one_entry c was (Came Quiet) log stayed = inr stayed
one_entry c was (Sent d bytes) log stayed = inr stayed
one_entry c was (Unsent d) log stayed = inr stayed
one_entry c was (Shut d) log stayed = inr (not_ended c d was log stayed.0 stayed.1)

later_opening : (c : ConnectionId) (entry : WorldEntry) (log : List WorldEntry) → HasOpening log c → HasOpening (entry ∷ log) c
later_opening c entry log o = record { before = entry ∷ o.before; peer = o.peer; later = o.later; is = ap (λ l. entry ∷ l) o.is; endless = o.endless }

opened_or_stayed : (c : ConnectionId) (was : Bool) (log : List WorldEntry) → open_after_all c was log ≡ true → HasOpening log c ⊎ StayedOpen c was log
opened_or_stayed c was [] h = inr (h, refl)
opened_or_stayed c was (entry ∷ log) h =
    elim (opened_or_stayed c (open_after c was entry) log h) [
      | inl o ↦ inl (later_opening c entry log o)
      | inr stayed ↦ one_entry c was entry log stayed
    ]

pub has_opening : (log : List WorldEntry) (c : ConnectionId) → is_connected log c ≡ true → HasOpening log c
has_opening log c h = elim (opened_or_stayed c false log h) [ inl o ↦ o | inr stayed ↦ absurd (true≢false (sym stayed.0)) ]

stays_open : (c : ConnectionId) (log : List WorldEntry) → list_any (ends_connection c) log ≡ false → open_after_all c true log ≡ true
stays_open c [] h = refl
stays_open c (Came (Opened d peer) ∷ log) h =
    elim (d == c) as (λ t. open_after_all c (cond t true true) log ≡ true) [ true ↦ stays_open c log h | false ↦ stays_open c log h ]
stays_open c (Came (Piece d bytes) ∷ log) h = stays_open c log h
stays_open c (Came (Gone d) ∷ log) h =
    elim (d == c) as (λ t. (t || list_any (ends_connection c) log) ≡ false → open_after_all c (cond t false true) log ≡ true) [ true ↦ λ h. absurd (true≢false h) | false ↦ stays_open c log ] h
stays_open c (Came Quiet ∷ log) h = stays_open c log h
stays_open c (Sent d bytes ∷ log) h = stays_open c log h
stays_open c (Unsent d ∷ log) h = stays_open c log h
stays_open c (Shut d ∷ log) h =
    elim (d == c) as (λ t. (t || list_any (ends_connection c) log) ≡ false → open_after_all c (cond t false true) log ≡ true) [ true ↦ λ h. absurd (true≢false h) | false ↦ stays_open c log ] h

pub open_after_append : (c : ConnectionId) (was : Bool) (log later : List WorldEntry) → open_after_all c was (log ++ later) ≡ open_after_all c (open_after_all c was log) later
open_after_append c was [] later = refl
open_after_append c was (entry ∷ log) later = open_after_append c (open_after c was entry) log later

pub is_connected-from_opening : (log : List WorldEntry) (c : ConnectionId) → HasOpening log c → is_connected log c ≡ true
is_connected-from_opening log c o =
    ap (λ l. is_connected l c) o.is
    ∙ open_after_append c false o.before (Came (Opened c o.peer) ∷ o.later)
    ∙ ap (λ t. open_after_all c (cond t true (open_after_all c false o.before)) o.later) (nat_eq_itself c)
    ∙ stays_open c o.later o.endless
