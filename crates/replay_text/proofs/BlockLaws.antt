-- Blocks, and where a text that begins with a block is refused.
use Rattle.std.proofs.Common.{◌≡◌, ◌≢◌, ◌+◌, ◌≤◌, ◌++◌, ℕ, List, [], ◌∷◌, codes, sym, ◌∙◌, ap, subst, refl, arith, length, take, drop, append_assoc, length-append}
use Rattle.std.proofs.lemmas.List.{take_at, drop_at, length-drop}
use Rattle.replay_text.specs.Lines.{newlines, text_of_lines, AreLines}
use Rattle.replay_text.specs.Languages.{IsRefusedAt}
use Rattle.replay_text.specs.Scenario.{HaveNoDot}
use Rattle.replay_text.specs.Reading.{BlockThen, EndsBlock, EndsNoBlock, Refuses, fault_further, FirstLine}
use Rattle.replay_text.specs.declared.scenario.ScenarioFault.{ScenarioFault}
use Rattle.replay_text.specs.declared.scenario.ScenarioFault.TheVariants.{Line, NoMemory}
use Rattle.replay_text.proofs.LineLaws.{newlines-append, one_first_line, text_of_lines-append}
use Rattle.replay_text.proofs.Refusals.{refused_end}
use Rattle.replay_text.proofs.ReadingActs.{after_line}

-- ---- a language whose texts begin with a block

after_line_of : (Rest : List ℕ → Type 0) (line r : List ℕ) (block : List (List ℕ)) (rest : List ℕ) → newlines line ≡ 0 → line ≢ codes "."
    → AreLines block → HaveNoDot block → Rest rest → line ++ 10 ∷ r ≡ text_of_lines block ++ 46 ∷ 10 ∷ rest → BlockThen Rest r
after_line_of Rest line r [] rest one other lines dots goes e = absurd (other (one_first_line line (codes ".") r rest one refl e).0)
after_line_of Rest line r (l ∷ block) rest one other lines dots goes e =
    let tail = one_first_line line l r (text_of_lines block ++ 46 ∷ 10 ∷ rest) one lines.0 (e ∙ append_assoc l (10 ∷ text_of_lines block) (46 ∷ 10 ∷ rest)) in
    record { block = block; are = lines.1; no_dot = dots.1; rest = rest; goes_on = goes; text_is = tail.1 }

rest_line : (Rest : List ℕ → Type 0) (line : List ℕ) → newlines line ≡ 0 → line ≢ codes "." → (r : List ℕ) → BlockThen Rest (line ++ 10 ∷ r) → BlockThen Rest r
rest_line Rest line one other r b = after_line_of Rest line r b.block b.rest one other b.are b.no_dot b.goes_on b.text_is

before_line : (Rest : List ℕ → Type 0) (line : List ℕ) → newlines line ≡ 0 → line ≢ codes "." → (r : List ℕ) → BlockThen Rest r → BlockThen Rest (line ++ 10 ∷ r)
before_line Rest line one other r b = record {
  block = line ∷ b.block;
  are = (one, b.are);
  no_dot = (other, b.no_dot);
  rest = b.rest;
  goes_on = b.goes_on;
  text_is = ap (λ t. line ++ 10 ∷ t) b.text_is ∙ sym (append_assoc line (10 ∷ text_of_lines b.block) (46 ∷ 10 ∷ b.rest));
}

after_dot_of : (Rest : List ℕ → Type 0) (r : List ℕ) (block : List (List ℕ)) (rest : List ℕ)
    → AreLines block → HaveNoDot block → Rest rest → codes "." ++ 10 ∷ r ≡ text_of_lines block ++ 46 ∷ 10 ∷ rest → Rest r
after_dot_of Rest r [] rest lines dots goes e = subst Rest (sym (one_first_line (codes ".") (codes ".") r rest refl refl e).1) goes
after_dot_of Rest r (l ∷ block) rest lines dots goes e =
    absurd (dots.0 (sym (one_first_line (codes ".") l r (text_of_lines block ++ 46 ∷ 10 ∷ rest) refl lines.0 (e ∙ append_assoc l (10 ∷ text_of_lines block) (46 ∷ 10 ∷ rest))).0))

after_dot : (Rest : List ℕ → Type 0) (r : List ℕ) → BlockThen Rest (codes "." ++ 10 ∷ r) → Rest r
after_dot Rest r b = after_dot_of Rest r b.block b.rest b.are b.no_dot b.goes_on b.text_is

pub before_dot : (Rest : List ℕ → Type 0) (r : List ℕ) → Rest r → BlockThen Rest (codes "." ++ 10 ∷ r)
before_dot Rest r goes = record { block = []; are = tt; no_dot = tt; rest = r; goes_on = goes; text_is = refl }

have_newline : (Rest : List ℕ → Type 0) (text : List ℕ) → newlines text ≡ 0 → BlockThen Rest text → ⊥
have_newline Rest text one b =
    absurd (omega (arith, ap newlines b.text_is, one, newlines-append (text_of_lines b.block) (46 ∷ 10 ∷ b.rest)))

-- ---- refusals

-- some text of the language, so that it has any
module _ (Rest : List ℕ → Type 0) (some : List ℕ) (is : Rest some) where
  -- a text that begins with lines of a block
  refused_after_lines : (block : List (List ℕ)) (rest : List ℕ) (n : ℕ) → AreLines block → HaveNoDot block
      → IsRefusedAt (BlockThen Rest) rest n → IsRefusedAt (BlockThen Rest) (text_of_lines block ++ rest) (length block + n)
  refused_after_lines [] rest n lines dots r = let same : n ≡ 0 + n = omega arith in subst (λ k. IsRefusedAt (BlockThen Rest) rest k) same r
  refused_after_lines (l ∷ block) rest n lines dots r =
      let inner = refused_after_lines block rest n lines.1 dots.1 r in
      let outer = after_line (BlockThen Rest) (BlockThen Rest) l (text_of_lines block ++ rest) (length block + n) lines.0 (rest_line Rest l lines.0 dots.0)
      (before_line Rest l lines.0 dots.0) (codes "." ++ 10 ∷ some) (before_dot Rest some is) inner in
      let count : 1 + (length block + n) ≡ length (l ∷ block) + n = omega arith in
      subst (λ t. IsRefusedAt (BlockThen Rest) t (length (l ∷ block) + n)) (sym (append_assoc l (10 ∷ text_of_lines block) rest))
      (subst (λ k. IsRefusedAt (BlockThen Rest) (l ++ 10 ∷ (text_of_lines block ++ rest)) k) count outer)

  -- a text that begins with a whole block
  refused_after_block : (text : List ℕ) (at count n : ℕ) → EndsBlock text at count → IsRefusedAt Rest (drop (at + 2) text) n
      → IsRefusedAt (BlockThen Rest) text (n + (count + 1))
  refused_after_block text at count n b r =
      let rest = drop (at + 2) text in
      let dot = after_line (BlockThen Rest) Rest (codes ".") rest n refl (after_dot Rest) (before_dot Rest) some is r in
      let whole = refused_after_lines b.block (46 ∷ 10 ∷ rest) (1 + n) b.is_block.are b.is_block.no_dot dot in
      let lines : length b.block + (1 + n) ≡ n + (count + 1) = omega (arith, b.count_is) in
      subst (λ t. IsRefusedAt (BlockThen Rest) t (n + (count + 1))) (sym b.text_is)
      (subst (λ k. IsRefusedAt (BlockThen Rest) (text_of_lines b.block ++ 46 ∷ 10 ∷ rest) k) lines whole)

  pub refuses_after_block : (text : List ℕ) (at count : ℕ) (fault : ScenarioFault) → EndsBlock text at count → Refuses Rest (drop (at + 2) text) fault
      → Refuses (BlockThen Rest) text (fault_further fault (count + 1))
  refuses_after_block text at count (Line n) b r = (
    refused_after_block text at count n b r.0,
    omega (arith, r.1, b.small, b.within, length-drop (at + 2) text),
  )
  refuses_after_block text at count NoMemory b r = tt

  -- a text that begins with no block
  pub refuses_no_block : (text : List ℕ) (count : ℕ) → EndsNoBlock text count → IsRefusedAt (BlockThen Rest) text count × (count ≤ length text)
  refuses_no_block text count b =
      let whole = refused_after_lines b.block b.rest 0 b.are b.no_dot (refused_end (BlockThen Rest) b.rest b.one (have_newline Rest b.rest b.one)) in
      let lines : length b.block + 0 ≡ count = omega (arith, b.count_is) in (
        subst (λ t. IsRefusedAt (BlockThen Rest) t count) (sym b.text_is)
            (subst (λ k. IsRefusedAt (BlockThen Rest) (text_of_lines b.block ++ b.rest) k) lines whole),
        b.small,
      )

-- ---- the reader of a block

-- the reader has some lines of a block before
pub record PassedBlock (text rest : List ℕ) (count : ℕ) : Type 0 where
  pub block : List (List ℕ)
  pub are : AreLines block
  pub no_dot : HaveNoDot block
  pub text_is : text ≡ text_of_lines block ++ rest
  pub count_is : count ≡ length block
  pub small : count ≤ length (text_of_lines block)

lines_push : (block : List (List ℕ)) (line : List ℕ) → AreLines block → newlines line ≡ 0 → AreLines (block ++ line ∷ [])
lines_push [] line a b = (b, tt)
lines_push (l ∷ block) line a b = (a.0, lines_push block line a.1 b)

dots_push : (block : List (List ℕ)) (line : List ℕ) → HaveNoDot block → line ≢ codes "." → HaveNoDot (block ++ line ∷ [])
dots_push [] line a b = (b, tt)
dots_push (l ∷ block) line a b = (a.0, dots_push block line a.1 b)

pub block_line : (text rest line after : List ℕ) (count : ℕ) → PassedBlock text rest count → FirstLine rest line after → line ≢ codes "."
    → PassedBlock text after (count + 1)
block_line text rest line after count p f other =
    let more : text_of_lines (p.block ++ line ∷ []) ≡ text_of_lines p.block ++ (line ++ 10 ∷ []) = text_of_lines-append p.block (line ∷ []) in
    record {
      block = p.block ++ line ∷ [];
      are = lines_push p.block line p.are f.one;
      no_dot = dots_push p.block line p.no_dot other;
      text_is = p.text_is ∙ ap (λ t. text_of_lines p.block ++ t) (f.is ∙ sym (append_assoc line (10 ∷ []) after))
          ∙ sym (append_assoc (text_of_lines p.block) (line ++ 10 ∷ []) after) ∙ ap (λ t. t ++ after) (sym more);
      count_is = omega (arith, p.count_is, length-append p.block (line ∷ []));
      small = omega (arith, p.small, ap length more, length-append (text_of_lines p.block) (line ++ 10 ∷ []), length-append line (10 ∷ []));
    }

pub block_ends : (text rest line after : List ℕ) (count at : ℕ) → PassedBlock text rest count → FirstLine rest line after → line ≡ 46 ∷ []
    → at + length rest ≡ length text → EndsBlock text at count
block_ends text rest line after count at p f e size =
    let dot : rest ≡ 46 ∷ 10 ∷ after = f.is ∙ ap (λ l. l ++ 10 ∷ after) e in
    let whole : text ≡ text_of_lines p.block ++ 46 ∷ 10 ∷ after = p.text_is ∙ ap (λ t. text_of_lines p.block ++ t) dot in
    let long : length (text_of_lines p.block) ≡ at = omega (arith, ap length p.text_is, length-append (text_of_lines p.block) rest) in
    let two : length (text_of_lines p.block ++ 46 ∷ 10 ∷ []) ≡ at + 2 = omega (arith, long, length-append (text_of_lines p.block) (46 ∷ 10 ∷ [])) in
    let back : drop (at + 2) text ≡ after = ap (drop (at + 2)) (whole ∙ sym (append_assoc (text_of_lines p.block) (46 ∷ 10 ∷ []) after))
    ∙ drop_at (text_of_lines p.block ++ 46 ∷ 10 ∷ []) after (at + 2) two in
    record {
      block = p.block;
      is_block = record { are = p.are; no_dot = p.no_dot; bytes_are = ap (take at) p.text_is ∙ take_at (text_of_lines p.block) rest at long };
      text_is = whole ∙ ap (λ t. text_of_lines p.block ++ 46 ∷ 10 ∷ t) (sym back);
      within = omega (arith, ap length dot, size);
      count_is = p.count_is;
      small = omega (arith, p.small, long);
    }

pub no_block_ends : (text rest : List ℕ) (count : ℕ) → PassedBlock text rest count → newlines rest ≡ 0 → EndsNoBlock text count
no_block_ends text rest count p one = record {
  block = p.block;
  are = p.are;
  no_dot = p.no_dot;
  rest = rest;
  one = one;
  text_is = p.text_is;
  count_is = p.count_is;
  small = omega (arith, p.small, ap length p.text_is, length-append (text_of_lines p.block) rest);
}
