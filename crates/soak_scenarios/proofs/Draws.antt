-- The seed after a draw, computed in 64 bits; and rounds and blocks, one more.
use Rattle.std.proofs.Common.{◌≡◌, ◌+◌, ◌*◌, ◌/◌, ◌%◌, ◌∙◌, ap, sym, ℕ, arith, refl, add-one}
use Rattle.std.proofs.Math.Nat.{mod-add-div', add-mul-mod_self_right}
use Rattle.soak_scenarios.specs.Drafts.{ScenarioDraft}
use Rattle.soak_scenarios.specs.Soaks.{with_rounds, with_drawn_round, with_drawn_blocks, with_block}

pub added_within : (w a c : ℕ) → (a % w + c) % w ≡ (a + c) % w
added_within w a c =
    let cut : a + c ≡ (a % w + c) + a / w * w = omega (arith, mod-add-div' a w) in
    sym (ap (λ n. n % w) cut ∙ add-mul-mod_self_right (a % w + c) (a / w) w)

pub rounds_more : (block n : ℕ) (d : ScenarioDraft) → with_rounds block (n + 1) d ≡ with_drawn_round block (with_rounds block n d)
unfolding with_rounds
rounds_more block n d = rw (add-one n) refl

pub blocks_more : (n : ℕ) (d : ScenarioDraft) → with_drawn_blocks (n + 1) d ≡ with_block (n + 1) (with_drawn_blocks n d)
unfolding with_drawn_blocks
blocks_more n d = rw (add-one n) refl

pub no_rounds : (block : ℕ) (d : ScenarioDraft) → with_rounds block 0 d ≡ d
unfolding with_rounds
no_rounds block d = refl

pub no_blocks : (d : ScenarioDraft) → with_drawn_blocks 0 d ≡ d
unfolding with_drawn_blocks
no_blocks d = refl
