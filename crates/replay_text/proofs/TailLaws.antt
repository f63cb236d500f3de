-- The part after the content's dot: a farm or none, and acts.
use Rattle.std.proofs.Common.{◌≡◌, ◌≢◌, ◌+◌, ◌-◌, ◌<◌, ◌≤◌, ◌⊎◌, ◌++◌, ℕ, zero, suc, List, [], ◌∷◌, Option, Some, None, codes, map, sym, ◌∙◌, ap, subst, refl, arith, length, take, drop, append_assoc, length-append, ⊎_elim, inl, inr}
use Rattle.std.proofs.lemmas.List.{take_all, take-take, take-append-le}
use Rattle.std.proofs.lemmas.Bool.{cases_eq, cases_lt}
use Rattle.replay_text.specs.Lines.{newlines, text_of_lines}
use Rattle.replay_text.specs.Languages.{IsPrefixIn, IsRefusedAt}
use Rattle.replay_text.specs.EventLines.{line_of}
use Rattle.replay_text.specs.Scenario.{AreActs, IsActs, IsFarm, act_lines}
use Rattle.replay_text.specs.Reading.{BlockThen, FarmThenActs, IsTail, SpellsActs, SpellsTail, SpellsFarm, EndsBlock, Refuses, fault_further, LacksLine, Acts}
use Rattle.replay_text.specs.declared.event_line.EventLine.{EventLine}
use Rattle.replay_text.specs.declared.scenario.ScenarioFault.{ScenarioFault}
use Rattle.replay_text.specs.declared.scenario.ScenarioFault.TheVariants.{Line, NoMemory}
use Rattle.replay_text.proofs.LineLaws.{newlines-append, newlines-take, one_first_line, text_of_lines-append}
use Rattle.replay_text.proofs.Refusals.{take_past}
use Rattle.replay_text.proofs.ReadingActs.{after_line}
use Rattle.replay_text.proofs.ActLaws.{no_acts}
use Rattle.replay_text.proofs.EventLaws.{newlines-line_of, event_is_not_farm}
use Rattle.replay_text.proofs.BlockLaws.{before_dot}

-- ---- a language, or a text that begins with a line

-- A text is refused in its first line where a prefix within that line begins no text of the language.
refused_there : (A : List ℕ → Type 0) (text : List ℕ) (n : ℕ) → IsRefusedAt A text n → IsPrefixIn A [] → n ≢ 0 → (k : ℕ) → k ≤ length text
    → newlines (take k text) ≡ 0 → (IsPrefixIn A (take k text) → ⊥) → ⊥
refused_there A text n r start apart zero le one not = not start
refused_there A text n r start apart (suc k) le one not =
    let next : k + 1 ≡ suc k = omega arith in
    let here : newlines (take k text) ≡ 0 = sym (ap newlines (take-take k (suc k) text (omega arith))) ∙ newlines-take k (take (suc k) text) one in
    refused_there A text n r start apart k (omega arith) here
    (λ begins. apart (sym (r.first k (omega arith) begins (λ h. not (subst (λ j. IsPrefixIn A (take j text)) next h))) ∙ here))

-- a text that lacks a line doesn't begin with it
lacks_it : (want text r : List ℕ) → newlines want ≡ 0 → LacksLine want text → text ≡ want ++ 10 ∷ r → ⊥
lacks_it want text r one (inl none) e = absurd (omega (arith, ap newlines e, newlines-append want (10 ∷ r), none))
lacks_it want text r one (inr l) e = l.3 (one_first_line l.0 want l.1 r l.2.one one (sym l.2.is ∙ e)).0

-- where a prefix of it begins such a text, it ends within that line
prefix_lacks : (want text : List ℕ) (k : ℕ) (more r : List ℕ) → newlines want ≡ 0 → LacksLine want text → take k text ++ more ≡ want ++ 10 ∷ r → newlines (take k text) ≡ 0
prefix_lacks want text k more r one (inl none) e = newlines-take k text none
prefix_lacks want text k more r one (inr l) e = ⊎_elim
    (λ (le : k < length l.0 + 1).
    ap (λ t. newlines (take k t)) l.2.is ∙ ap newlines (take-append-le k l.0 (10 ∷ l.1) (omega arith)) ∙ newlines-take k l.0 l.2.one)
    (λ (ge : length l.0 + 1 ≤ k).
    let leading = l.0 ++ 10 ∷ [] in
    let j = k - (length l.0 + 1) in
    let size : length leading ≡ length l.0 + 1 = length-append l.0 (10 ∷ []) in
    let whole : text ≡ leading ++ l.1 = l.2.is ∙ sym (append_assoc l.0 (10 ∷ []) l.1) in
    let here : take k text ≡ leading ++ take j l.1 = ap (take k) whole ∙ take_past k j leading l.1 (omega arith) in
    let line : l.0 ++ 10 ∷ (take j l.1 ++ more) ≡ want ++ 10 ∷ r = sym (append_assoc l.0 (10 ∷ []) (take j l.1 ++ more))
    ∙ sym (append_assoc leading (take j l.1) more) ∙ ap (λ t. t ++ more) (sym here) ∙ e in
    absurd (l.3 (one_first_line l.0 want (take j l.1 ++ more) r l.2.one one line).0))
    (cases_lt k (length l.0 + 1))

-- such a text is refused in its first line
first_line_zero : (A : List ℕ → Type 0) (text : List ℕ) (n k : ℕ) → IsRefusedAt A text n → IsPrefixIn A [] → k ≤ length text
    → newlines (take k text) ≡ 0 → (n ≢ 0 → IsPrefixIn A (take k text) → ⊥) → n ≡ 0
first_line_zero A text n k r start le one not = ⊎_elim
    (λ (same : n ≡ 0). same)
    (λ (apart : n ≢ 0). absurd (refused_there A text n r start apart k le one (not apart)))
    (cases_eq n 0)

-- A text of another language that begins with a line which isn't there changes no refusal.
pub refused_or : (A B : List ℕ → Type 0) (want text : List ℕ) (n : ℕ) → newlines want ≡ 0 → ((t : List ℕ) → B t → (r : List ℕ) × (t ≡ want ++ 10 ∷ r))
    → IsPrefixIn A [] → LacksLine want text → IsRefusedAt A text n → IsRefusedAt (λ t. A t ⊎ B t) text n
refused_or A B want text n one has start lacks r = record {
  none = ⊎_elim (λ (a : A text). r.none a) (λ (b : B text). lacks_it want text (has text b).0 one lacks (has text b).1);
  first = λ at lt begins not. ⊎_elim
      (λ (a : A (take at text ++ begins.0)). r.first at lt (begins.0, a) (λ h. not (h.0, inl h.1)))
      (λ (b : B (take at text ++ begins.0)).
      let h = has (take at text ++ begins.0) b in
      let here = prefix_lacks want text at begins.0 h.0 one lacks h.1 in
      here ∙ sym (first_line_zero A text n at r start (omega arith) here
      (λ apart leading. apart (sym (r.first at lt leading (λ h. not (h.0, inl h.1))) ∙ here))))
      begins.1;
  early = λ begins. ⊎_elim
      (λ (a : A (text ++ begins.0)). r.early (begins.0, a))
      (λ (b : B (text ++ begins.0)).
      let h = has (text ++ begins.0) b in
      let all : take (length text) text ≡ text = take_all (length text) text (omega arith) in
      let here = prefix_lacks want text (length text) begins.0 h.0 one lacks (ap (λ t. t ++ begins.0) all ∙ h.1) in
      let none : newlines text ≡ 0 = sym (ap newlines all) ∙ here in
      none ∙ sym (first_line_zero A text n (length text) r start (omega arith) here
      (λ apart leading. apart (sym (r.early (subst (IsPrefixIn A) all leading)) ∙ none))))
      begins.1;
}

-- ---- the farm

farm_begins : (t : List ℕ) → FarmThenActs t → (r : List ℕ) × (t ≡ codes "farm" ++ 10 ∷ r)
farm_begins t (rest, b, e) = (rest, e)

acts_without_farm : (r : List ℕ) → Acts (codes "farm" ++ 10 ∷ r) → ⊥
acts_without_farm r ([], oks, e) = cc
acts_without_farm r (a ∷ acts, oks, e) =
    event_is_not_farm a (sym (one_first_line (codes "farm") (line_of a) r (text_of_lines (act_lines acts)) refl (newlines-line_of a oks.0) e).0)

after_farm : (r : List ℕ) → IsTail (codes "farm" ++ 10 ∷ r) → BlockThen Acts r
after_farm r (inl acts) = absurd (acts_without_farm r acts)
after_farm r (inr (rest, b, e)) = subst (BlockThen Acts) (sym (one_first_line (codes "farm") (codes "farm") r rest refl refl e).1) b

before_farm : (r : List ℕ) → BlockThen Acts r → IsTail (codes "farm" ++ 10 ∷ r)
before_farm r b = inr (r, b, refl)

pub some_tail : IsTail (text_of_lines (act_lines []))
some_tail = inl no_acts

-- no farm: the acts are refused where they are
pub refuses_acts : (text : List ℕ) (fault : ScenarioFault) → LacksLine (codes "farm") text → Refuses Acts text fault → Refuses IsTail text fault
refuses_acts text (Line n) lacks r =
    (refused_or Acts FarmThenActs (codes "farm") text n refl farm_begins (text_of_lines (act_lines []), no_acts) lacks r.0, r.1)
refuses_acts text NoMemory lacks r = tt

-- a farm: what follows is refused a line further down
pub refuses_farm : (text block : List ℕ) (fault : ScenarioFault) → text ≡ codes "farm" ++ 10 ∷ block → Refuses (BlockThen Acts) block fault
    → Refuses IsTail text (fault_further fault 1)
refuses_farm text block (Line n) e r =
    let whole = after_line IsTail (BlockThen Acts) (codes "farm") block n refl after_farm before_farm (codes "." ++ 10 ∷ text_of_lines (act_lines []))
    (before_dot Acts (text_of_lines (act_lines [])) no_acts) r.0 in
    let count : 1 + n ≡ n + 1 = omega arith in
    (subst (λ t. IsRefusedAt IsTail t (n + 1)) (sym e) (subst (λ k. IsRefusedAt IsTail (codes "farm" ++ 10 ∷ block) k) count whole), omega (arith, r.1, ap length e))
refuses_farm text block NoMemory e r = tt

-- ---- what a tail spells

-- the lines of a block, its dot, and lines after it
pub dotted : (block lines : List (List ℕ)) → (block ++ codes "." ∷ []) ++ lines ≡ block ++ codes "." ∷ lines
dotted block lines = append_assoc block (codes "." ∷ []) lines

pub tail_with_farm : (text block farm bytes : List ℕ) → text ≡ codes "farm" ++ 10 ∷ block → SpellsFarm block farm bytes → SpellsTail text (Some farm) bytes
tail_with_farm text block farm bytes e s = record {
  lines = codes "farm" ∷ (s.block ++ codes "." ∷ []);
  farm_is = (s.block, s.farm_is, refl);
  acts = s.acts;
  acts_are = s.acts_are;
  text_is = e ∙ ap (λ t. codes "farm" ++ 10 ∷ t) (s.text_is ∙ ap text_of_lines (sym (dotted s.block (act_lines s.acts))));
}

pub farm_whole : (text farm bytes : List ℕ) (at count : ℕ) → EndsBlock text at count → farm ≡ take at text → SpellsActs (drop (at + 2) text) bytes
    → SpellsFarm text farm bytes
farm_whole text farm bytes at count b is s = record {
  block = b.block;
  farm_is = record { are = b.is_block.are; no_dot = b.is_block.no_dot; bytes_are = is ∙ b.is_block.bytes_are };
  acts = s.acts;
  acts_are = s.acts_are;
  text_is = b.text_is ∙ ap (λ t. text_of_lines b.block ++ 46 ∷ 10 ∷ t) s.text_is ∙ sym (text_of_lines-append b.block (codes "." ∷ act_lines s.acts));
}

-- a text of lines about a farm and of acts is a tail
pub tail_of : (farm : Option (List ℕ)) (lines : List (List ℕ)) (acts : List EventLine) → IsFarm farm lines → AreActs acts
    → IsTail (text_of_lines (lines ++ act_lines acts))
tail_of None lines acts e oks = inl (acts, oks, ap (λ l. text_of_lines (l ++ act_lines acts)) e)
tail_of (Some bytes) lines acts (block, is, e) oks = inr (
  text_of_lines (block ++ codes "." ∷ act_lines acts),
  record {
    block = block;
    are = is.are;
    no_dot = is.no_dot;
    rest = text_of_lines (act_lines acts);
    goes_on = (acts, oks, refl);
    text_is = text_of_lines-append block (codes "." ∷ act_lines acts);
  },
  ap (λ l. text_of_lines (l ++ act_lines acts)) e ∙ ap (λ t. codes "farm" ++ 10 ∷ text_of_lines t) (dotted block (act_lines acts)),
)

acts_of : (acts : List EventLine) → AreActs acts → IsActs (text_of_lines (map line_of acts)) acts
acts_of acts oks = record { are = oks; bytes_are = refl }

-- a tail is one of a farm, or of none, and of acts
pub record Tail (text : List ℕ) : Type 0 where
  pub farm : Option (List ℕ)
  pub bytes : List ℕ
  pub spells : SpellsTail text farm bytes

pub tail_spelled : (text : List ℕ) → IsTail text → Tail text
tail_spelled text (inl (acts, oks, e)) = record {
  farm = None;
  bytes = text_of_lines (map line_of acts);
  spells = record { lines = []; farm_is = refl; acts = acts; acts_are = acts_of acts oks; text_is = e };
}
tail_spelled text (inr (rest, b, e)) =
    let acts = b.goes_on.0 in
    let bytes = text_of_lines (map line_of acts) in
    record {
      farm = Some (text_of_lines b.block);
      bytes = bytes;
      spells = tail_with_farm text rest (text_of_lines b.block) bytes e (record {
        block = b.block;
        farm_is = record { are = b.are; no_dot = b.no_dot; bytes_are = refl };
        acts = acts;
        acts_are = acts_of acts b.goes_on.1;
        text_is = b.text_is ∙ ap (λ t. text_of_lines b.block ++ 46 ∷ 10 ∷ t) b.goes_on.2 ∙ sym (text_of_lines-append b.block (codes "." ∷ act_lines acts));
      });
    }
