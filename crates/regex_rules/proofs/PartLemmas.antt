-- A row that goes on with one more piece: at which characters a text may end there, and after which it goes on.
use Rattle.std.proofs.Common.{◌≡◌, ◌↔◌, ◌⊎◌, inl, inr, ℕ, ◌<◌, ◌≤◌, true, ◌||◌, List, [], arith}
use Rattle.regex_rules.specs.declared.linking.Piece.{Piece}
use Rattle.regex_rules.specs.declared.repeat.Repeat.{Repeat}
use Rattle.regex_rules.specs.Languages.{Texts, Cut, Repeated, may_lack, may_go_on}
use Rattle.regex_rules.specs.Positions.{Has, followed, so_often, Joins}
use Rattle.regex_rules.proofs.TextLemmas.{Reach, Inside, Says, cut_parts, reach_step, reach_inside, enters_inside}
use Rattle.regex_rules.proofs.BitLemmas.{has_if}

-- At some character that is of the set the text may end.
abbrev pub EndsIn : (ℕ → Texts) → ℕ → Texts
EndsIn At set w = (q : ℕ) × At q w × Has set q

-- It goes on to a character from the beginning of the set, or from a character before.
abbrev pub Comes : Type 0 → Type 0 → (ℕ → Texts) → (ℕ → Type 0) → Texts
Comes Enters First At Follow w = (Enters × First) ⊎ ((q : ℕ) × At q w × Follow q)

clash : {B : Type 0} (q mid : ℕ) → q < mid → mid ≤ q → B
clash q mid low high = absurd (omega arith)

-- The piece `next` with the set of texts `A` goes on the row `row` with the set `L`, which begins after a text of `P`. The characters of the row come before `mid`.
module _ (P L A : Texts) (repeat : Repeat) (row next : Piece) (AtRow : ℕ → Texts) (AtNext : Texts → ℕ → Texts) (mid : ℕ) (w : List ℕ)
    (row_lacks : Says row.lacks (L [])) (next_lacks : Says (may_lack repeat || next.lacks) (Repeated repeat A []))
    (row_ends : Reach P L w ↔ EndsIn AtRow row.last w) (next_ends : Reach (Inside (Cut P L) repeat A) A w ↔ EndsIn (AtNext (Inside (Cut P L) repeat A)) next.last w)
    (at_row : (q : ℕ) → AtRow q w → q < mid) (at_next : (q : ℕ) → AtNext (Inside (Cut P L) repeat A) q w → mid ≤ q)
    (last_row : (q : ℕ) → Has row.last q → q < mid) (last_next : (q : ℕ) → Has next.last q → mid ≤ q) where
  pub both_end : Reach P (Cut L (Repeated repeat A)) w ↔ ((q : ℕ) × (AtRow q w ⊎ AtNext (Inside (Cut P L) repeat A) q w) × Has (followed row (so_often repeat next)).last q)
  both_end = (λ r. there ((reach_step P L (Repeated repeat A) w).1 r), λ s. back s.0 s.1 ((has_if (may_lack repeat || next.lacks) next.last row.last s.0).0 s.2))
    where
      there : (Reach P L w × Repeated repeat A []) ⊎ Reach (Cut P L) (Repeated repeat A) w
          → (q : ℕ) × (AtRow q w ⊎ AtNext (Inside (Cut P L) repeat A) q w) × Has (followed row (so_often repeat next)).last q
      there (inl (reach, none)) =
          let s = row_ends.0 reach in
          (s.0, inl s.1, (has_if (may_lack repeat || next.lacks) next.last row.last s.0).1 (inr (next_lacks.1 none, s.2)))
      there (inr reach) =
          let s = next_ends.0 ((reach_inside (Cut P L) repeat A w).1 reach) in
          (s.0, inr s.1, (has_if (may_lack repeat || next.lacks) next.last row.last s.0).1 (inl s.2))

      back : (q : ℕ) → (AtRow q w ⊎ AtNext (Inside (Cut P L) repeat A) q w) → (Has next.last q ⊎ (((may_lack repeat || next.lacks) ≡ true) × Has row.last q))
          → Reach P (Cut L (Repeated repeat A)) w
      back q (inl a) (inl last) = clash q mid (at_row q a) (last_next q last)
      back q (inl a) (inr (lacks, last)) = (reach_step P L (Repeated repeat A) w).0 (inl (row_ends.1 (q, a, last), next_lacks.0 lacks))
      back q (inr a) (inl last) = (reach_step P L (Repeated repeat A) w).0 (inr ((reach_inside (Cut P L) repeat A w).0 (next_ends.1 (q, a, last))))
      back q (inr a) (inr (lacks, last)) = clash q mid (last_row q last) (at_next q a)

  -- where the piece begins, and where it begins again
  pub piece_begins : (((P w × (row.lacks ≡ true)) ⊎ EndsIn AtRow row.last w) ⊎ ((may_go_on repeat ≡ true) × EndsIn (AtNext (Inside (Cut P L) repeat A)) next.last w)) ↔ Inside (Cut P L) repeat A w
  piece_begins = (λ s. (enters_inside (Cut P L) repeat A w).0 (there s), λ i. back ((enters_inside (Cut P L) repeat A w).1 i))
    where
      there : ((P w × (row.lacks ≡ true)) ⊎ EndsIn AtRow row.last w) ⊎ ((may_go_on repeat ≡ true) × EndsIn (AtNext (Inside (Cut P L) repeat A)) next.last w)
          → Cut P L w ⊎ ((may_go_on repeat ≡ true) × Reach (Cut P L) (Repeated repeat A) w)
      there (inl (inl (p, lacks))) = inl ((cut_parts P L w).0 (inl (p, row_lacks.0 lacks)))
      there (inl (inr s)) = inl ((cut_parts P L w).0 (inr (row_ends.1 s)))
      there (inr (go, s)) = inr (go, (reach_inside (Cut P L) repeat A w).0 (next_ends.1 s))

      back : Cut P L w ⊎ ((may_go_on repeat ≡ true) × Reach (Cut P L) (Repeated repeat A) w)
          → ((P w × (row.lacks ≡ true)) ⊎ EndsIn AtRow row.last w) ⊎ ((may_go_on repeat ≡ true) × EndsIn (AtNext (Inside (Cut P L) repeat A)) next.last w)
      back (inl cut) = inl (elim ((cut_parts P L w).1 cut) [ inl s ↦ inl (s.0, row_lacks.1 s.1) | inr r ↦ inr (row_ends.0 r) ])
      back (inr (go, r)) = inr (go, next_ends.0 ((reach_inside (Cut P L) repeat A w).1 r))

  -- one more character of the text
  module _ (v : List ℕ) (p : ℕ) (TakesRow TakesNext FirstRow : Type 0) (FollowRow FollowNext : ℕ → Type 0)
      (row_step : AtRow p v ↔ (TakesRow × Comes (P w) FirstRow AtRow FollowRow w))
      (next_step : AtNext (Inside (Cut P L) repeat A) p v ↔ (TakesNext × Comes (Inside (Cut P L) repeat A w) (Has next.first p) (AtNext (Inside (Cut P L) repeat A)) FollowNext w))
      (takes_row : TakesRow → p < mid) (takes_next : TakesNext → mid ≤ p) (first_row : FirstRow → p < mid) (first_next : Has next.first p → mid ≤ p)
      (follow_row : (q : ℕ) → FollowRow q → (q < mid) × (p < mid)) (follow_next : (q : ℕ) → FollowNext q → (mid ≤ q) × (mid ≤ p)) where
    abbrev pub ReadingStep : Type 0
    ReadingStep =
        (TakesRow ⊎ TakesNext)
        × (((P w) × (FirstRow ⊎ ((row.lacks ≡ true) × Has next.first p)))
        ⊎ ((q : ℕ) × (AtRow q w ⊎ AtNext (Inside (Cut P L) repeat A) q w) × (FollowRow q ⊎ (FollowNext q ⊎ Joins row next repeat q p))))

    from_row : TakesRow × Comes (P w) FirstRow AtRow FollowRow w → ReadingStep
    from_row (takes, inl (begins, first)) = (inl takes, inl (begins, inl first))
    from_row (takes, inr (q, a, follows)) = (inl takes, inr (q, inl a, inl follows))

    from_begin : TakesNext → Has next.first p → ((P w × (row.lacks ≡ true)) ⊎ EndsIn AtRow row.last w) ⊎ ((may_go_on repeat ≡ true) × EndsIn (AtNext (Inside (Cut P L) repeat A)) next.last w) → ReadingStep
    from_begin takes first (inl (inl (begins, lacks))) = (inr takes, inl (begins, inr (lacks, first)))
    from_begin takes first (inl (inr (q, a, last))) = (inr takes, inr (q, inl a, inr (inr (first, inl last))))
    from_begin takes first (inr (go, (q, a, last))) = (inr takes, inr (q, inr a, inr (inr (first, inr (go, last)))))

    from_next : TakesNext × Comes (Inside (Cut P L) repeat A w) (Has next.first p) (AtNext (Inside (Cut P L) repeat A)) FollowNext w → ReadingStep
    from_next (takes, inl (begins, first)) = from_begin takes first (piece_begins.1 begins)
    from_next (takes, inr (q, a, follows)) = (inr takes, inr (q, inr a, inr (inl follows)))

    into_row : TakesRow → ((P w) × (FirstRow ⊎ ((row.lacks ≡ true) × Has next.first p)))
        ⊎ ((q : ℕ) × (AtRow q w ⊎ AtNext (Inside (Cut P L) repeat A) q w) × (FollowRow q ⊎ (FollowNext q ⊎ Joins row next repeat q p))) → AtRow p v
    into_row takes (inl (begins, inl first)) = row_step.1 (takes, inl (begins, first))
    into_row takes (inl (begins, inr (lacks, first))) = clash p mid (takes_row takes) (first_next first)
    into_row takes (inr (q, inl a, inl follows)) = row_step.1 (takes, inr (q, a, follows))
    into_row takes (inr (q, inr a, inl follows)) = clash q mid (follow_row q follows).0 (at_next q a)
    into_row takes (inr (q, a, inr (inl follows))) = clash p mid (takes_row takes) (follow_next q follows).1
    into_row takes (inr (q, a, inr (inr (first, last)))) = clash p mid (takes_row takes) (first_next first)

    into_next : TakesNext → ((P w) × (FirstRow ⊎ ((row.lacks ≡ true) × Has next.first p)))
        ⊎ ((q : ℕ) × (AtRow q w ⊎ AtNext (Inside (Cut P L) repeat A) q w) × (FollowRow q ⊎ (FollowNext q ⊎ Joins row next repeat q p))) → AtNext (Inside (Cut P L) repeat A) p v
    into_next takes (inl (begins, inl first)) = clash p mid (first_row first) (takes_next takes)
    into_next takes (inl (begins, inr (lacks, first))) = next_step.1 (takes, inl (piece_begins.0 (inl (inl (begins, lacks))), first))
    into_next takes (inr (q, a, inl follows)) = clash p mid (follow_row q follows).1 (takes_next takes)
    into_next takes (inr (q, inl a, inr (inl follows))) = clash q mid (at_row q a) (follow_next q follows).0
    into_next takes (inr (q, inr a, inr (inl follows))) = next_step.1 (takes, inr (q, a, follows))
    into_next takes (inr (q, inl a, inr (inr (first, inl last)))) = next_step.1 (takes, inl (piece_begins.0 (inl (inr (q, a, last))), first))
    into_next takes (inr (q, inr a, inr (inr (first, inl last)))) = clash q mid (last_row q last) (at_next q a)
    into_next takes (inr (q, inl a, inr (inr (first, inr (go, last))))) = clash q mid (at_row q a) (last_next q last)
    into_next takes (inr (q, inr a, inr (inr (first, inr (go, last))))) = next_step.1 (takes, inl (piece_begins.0 (inr (go, (q, a, last))), first))

    pub both_step : (AtRow p v ⊎ AtNext (Inside (Cut P L) repeat A) p v) ↔ ReadingStep
    both_step = (there, back)
      where
        there : AtRow p v ⊎ AtNext (Inside (Cut P L) repeat A) p v → ReadingStep
        there (inl a) = from_row (row_step.0 a)
        there (inr a) = from_next (next_step.0 a)

        back : ReadingStep → AtRow p v ⊎ AtNext (Inside (Cut P L) repeat A) p v
        back (inl takes, how) = inl (into_row takes how)
        back (inr takes, how) = inr (into_next takes how)
