use Rattle.std.proofs.Common.{◌≤◌, length, lit≤}
use Rattle.replay_text.specs.Languages.{IsPrefixIn}
use Rattle.replay_text.specs.Scenario.{IsScenario}
use Rattle.replay_text.specs.Scenario.{longest_scenario}
use Rattle.replay_text.proofs.OneReading.{refused_once, some_scenario}
use Rattle.replay_text.proofs.laws.one_refusal.Goals as goal

pub returns : goal.returns
returns c = λ text n m p q. refused_once (λ t. IsScenario t × (length t ≤ longest_scenario)) (λ t. IsPrefixIn IsScenario t × (length t ≤ longest_scenario)) text n m
    (some_scenario, lit≤ tt) p q
