-- A whole scenario, from its head on.
use Rattle.std.proofs.Common.{◌≡◌, ◌≢◌, ◌+◌, ◌++◌, ℕ, List, [], ◌∷◌, codes, sym, ◌∙◌, ap, subst, refl, arith, length, take, drop, ⊎_elim}
use Rattle.replay_text.specs.Lines.{newlines, text_of_lines}
use Rattle.replay_text.specs.Languages.{IsRefusedAt}
use Rattle.replay_text.specs.Scenario.{act_lines, SpellsScenario, IsScenario}
use Rattle.replay_text.specs.Reading.{SpellsBody, SpellsTail, IsTail, IsContentBody, IsContent, EndsBlock, Refuses, fault_further, FirstLine, LacksLine}
use Rattle.replay_text.specs.declared.scenario.ScenarioFault.{ScenarioFault}
use Rattle.replay_text.specs.declared.scenario.ScenarioFault.TheVariants.{Line, NoMemory}
use Rattle.replay_text.specs.declared.scenario.Scenario.{Scenario}
use Rattle.replay_text.proofs.LineLaws.{newlines-append, one_first_line, text_of_lines-append}
use Rattle.replay_text.proofs.Refusals.{refused_line, refused_end}
use Rattle.replay_text.proofs.ReadingActs.{after_line}
use Rattle.replay_text.proofs.BlockLaws.{before_dot}
use Rattle.replay_text.proofs.TailLaws.{some_tail, tail_of, tail_spelled}

-- the parts of a body make it
pub body_whole : (text : List ℕ) (at count : ℕ) (s : Scenario) → EndsBlock text at count → s.content ≡ take at text
    → SpellsTail (drop (at + 2) text) s.farm s.acts → SpellsBody text s
body_whole text at count s b content t = record {
  block = b.block;
  content = record { are = b.is_block.are; no_dot = b.is_block.no_dot; bytes_are = content ∙ b.is_block.bytes_are };
  farm_lines = t.lines;
  farm = t.farm_is;
  acts = t.acts;
  acts_are = t.acts_are;
  text_is = b.text_is ∙ ap (λ x. text_of_lines b.block ++ 46 ∷ 10 ∷ x) t.text_is ∙ sym (text_of_lines-append b.block (codes "." ∷ (t.lines ++ act_lines t.acts)));
}

-- a body of one is a body
body_is : (text : List ℕ) (s : Scenario) → SpellsBody text s → IsContentBody text
body_is text s p = record {
  block = p.block;
  are = p.content.are;
  no_dot = p.content.no_dot;
  rest = text_of_lines (p.farm_lines ++ act_lines p.acts);
  goes_on = tail_of s.farm p.farm_lines p.acts p.farm p.acts_are.are;
  text_is = p.text_is ∙ text_of_lines-append p.block (codes "." ∷ (p.farm_lines ++ act_lines p.acts));
}

-- a body is that of some scenario
body_spelled : (text : List ℕ) → IsContentBody text → (s : Scenario) × SpellsBody text s
body_spelled text b =
    let t = tail_spelled b.rest b.goes_on in
    let s : Scenario = record { content = text_of_lines b.block; farm = t.farm; acts = t.bytes } in (
      s,
      record {
        block = b.block;
        content = record { are = b.are; no_dot = b.no_dot; bytes_are = refl };
        farm_lines = t.spells.lines;
        farm = t.spells.farm_is;
        acts = t.spells.acts;
        acts_are = t.spells.acts_are;
        text_is = b.text_is ∙ ap (λ x. text_of_lines b.block ++ 46 ∷ 10 ∷ x) t.spells.text_is
            ∙ sym (text_of_lines-append b.block (codes "." ∷ (t.spells.lines ++ act_lines t.spells.acts)));
      },
    )

pub some_body : IsContentBody (text_of_lines (codes "." ∷ act_lines []))
some_body = before_dot IsTail (text_of_lines (act_lines [])) some_tail

-- the head
pub rest_first : (r : List ℕ) → IsScenario (codes "scenario 1" ++ 10 ∷ r) → IsContent r
rest_first r (s, p) =
    let body = text_of_lines (p.block ++ codes "." ∷ (p.farm_lines ++ act_lines p.acts)) in
    let rest = (one_first_line (codes "scenario 1") (codes "scenario 1") r (codes "content" ++ 10 ∷ body) refl refl p.text_is).1 in
    let spells : SpellsBody body s = record { block = p.block; content = p.content; farm_lines = p.farm_lines; farm = p.farm; acts = p.acts; acts_are = p.acts_are; text_is = refl } in
    (body, body_is body s spells, rest)

scenario_of_body : (text body : List ℕ) (s : Scenario) → SpellsBody body s → text ≡ codes "scenario 1" ++ 10 ∷ (codes "content" ++ 10 ∷ body) → SpellsScenario text s
scenario_of_body text body s p e = record {
  block = p.block;
  content = p.content;
  farm_lines = p.farm_lines;
  farm = p.farm;
  acts = p.acts;
  acts_are = p.acts_are;
  text_is = e ∙ ap (λ t. codes "scenario 1" ++ 10 ∷ (codes "content" ++ 10 ∷ t)) p.text_is;
}

pub before_first : (r : List ℕ) → IsContent r → IsScenario (codes "scenario 1" ++ 10 ∷ r)
before_first r (body, b, e) =
    let p = body_spelled body b in
    (p.0, scenario_of_body (codes "scenario 1" ++ 10 ∷ r) body p.0 p.1 (ap (λ t. codes "scenario 1" ++ 10 ∷ t) e))

pub after_content : (r : List ℕ) → IsContent (codes "content" ++ 10 ∷ r) → IsContentBody r
after_content r (body, b, e) = subst IsContentBody (sym (one_first_line (codes "content") (codes "content") r body refl refl e).1) b

pub before_content : (r : List ℕ) → IsContentBody r → IsContent (codes "content" ++ 10 ∷ r)
before_content r b = (r, b, refl)

-- a text that lacks the first line which each text of the language has
pub refused_first : (A : List ℕ → Type 0) (want text : List ℕ) → newlines want ≡ 0
    → ((t : List ℕ) → A t → (r : List ℕ) × (t ≡ want ++ 10 ∷ r)) → LacksLine want text → IsRefusedAt A text 0
refused_first A want text one has lacks = ⊎_elim
    (λ (none : newlines text ≡ 0). refused_end A text none (λ h.
    let w = has text h in
    absurd (omega (arith, ap newlines w.1, newlines-append want (10 ∷ w.0), none))))
    (λ (l : (line : List ℕ) × (rest : List ℕ) × FirstLine text line rest × (line ≢ want)).
    subst (λ t. IsRefusedAt A t 0) (sym l.2.is) (refused_line A l.0 l.1 l.2.one (λ r h.
    let w = has (l.0 ++ 10 ∷ r) h in
    l.3 (one_first_line l.0 want r w.0 l.2.one one w.1).0)))
    lacks

scenario_has_first : (t : List ℕ) → IsScenario t → (r : List ℕ) × (t ≡ codes "scenario 1" ++ 10 ∷ r)
scenario_has_first t (s, p) = (codes "content" ++ 10 ∷ text_of_lines (p.block ++ codes "." ∷ (p.farm_lines ++ act_lines p.acts)), p.text_is)

content_has_first : (t : List ℕ) → IsContent t → (r : List ℕ) × (t ≡ codes "content" ++ 10 ∷ r)
content_has_first t (body, b, e) = (body, e)

pub refused_at_first : (text : List ℕ) → LacksLine (codes "scenario 1") text → IsRefusedAt IsScenario text 0
refused_at_first text l = refused_first IsScenario (codes "scenario 1") text refl scenario_has_first l

after_head : (text rest : List ℕ) (n : ℕ) → text ≡ codes "scenario 1" ++ 10 ∷ rest → IsRefusedAt IsContent rest n → IsRefusedAt IsScenario text (1 + n)
after_head text rest n e h = subst (λ t. IsRefusedAt IsScenario t (1 + n)) (sym e)
    (after_line IsScenario IsContent (codes "scenario 1") rest n refl rest_first before_first
    (codes "content" ++ 10 ∷ text_of_lines (codes "." ∷ act_lines [])) (before_content (text_of_lines (codes "." ∷ act_lines [])) some_body) h)

pub refused_at_second : (text first : List ℕ) → text ≡ codes "scenario 1" ++ 10 ∷ first → LacksLine (codes "content") first → IsRefusedAt IsScenario text 1
refused_at_second text first e l = after_head text first 0 e (refused_first IsContent (codes "content") first refl content_has_first l)

pub refused_in_body : (text first body : List ℕ) (n : ℕ) → text ≡ codes "scenario 1" ++ 10 ∷ first → first ≡ codes "content" ++ 10 ∷ body
    → IsRefusedAt IsContentBody body n → IsRefusedAt IsScenario text (n + 2)
refused_in_body text first body n e k h =
    let r = after_line IsContent IsContentBody (codes "content") body n refl after_content before_content (text_of_lines (codes "." ∷ act_lines [])) some_body h in
    let count : 1 + (1 + n) ≡ n + 2 = omega arith in
    subst (λ m. IsRefusedAt IsScenario text m) count (after_head text first (1 + n) e (subst (λ t. IsRefusedAt IsContent t (1 + n)) (sym k) r))

pub refuses_in_body : (text first body : List ℕ) (fault : ScenarioFault) → text ≡ codes "scenario 1" ++ 10 ∷ first → first ≡ codes "content" ++ 10 ∷ body
    → Refuses IsContentBody body fault → Refuses IsScenario text (fault_further fault 2)
refuses_in_body text first body (Line n) e k h =
    (refused_in_body text first body n e k h.0, omega (arith, ap length e, ap length k, h.1))
refuses_in_body text first body NoMemory e k h = tt
