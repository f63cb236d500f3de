-- Steps of reading a text.
use Rattle.std.proofs.Common.{◌≡◌, ◌≤◌, ℕ, List, [], ◌∷◌, ◌++◌, ◌+◌, ◌-◌, length, Ok, Err, Result, ap, sym, ◌∙◌, arith}
use Rattle.std.specs.Prelude.{encode_utf8}
use Rattle.std.specs.Str.{chars}
use Rattle.std.proofs.lemmas.List.{length-append}
use Rattle.regex_rules.specs.declared.place.PatternPlace.{PatternPlace}
use Rattle.regex_rules.specs.declared.reader.Reader.{Reader}
use Rattle.regex_rules.specs.declared.fault.PatternFault.{PatternFault}
use Rattle.regex_rules.specs.Spelling.{strict}
use Rattle.regex_rules.specs.Reading.{step, finished, read_from}
use Rattle.regex_rules.proofs.FaultLemmas.{one_read_from, end_read_from}

-- past one character
pub read_next : (text rest later : List ℕ) (c : ℕ) (r next : Reader) (answer : Result (List PatternPlace) PatternFault) → length rest ≤ length text → rest ≡ encode_utf8 c ++ later → chars rest ≡ c ∷ chars later
    → step strict (length text - length rest) c r ≡ Ok next → read_from strict (length text - length rest) r (chars rest) ≡ answer → read_from strict (length text - length later) next (chars later) ≡ answer
read_next text rest later c r next answer le parts more e whole =
    let size : length rest ≡ length (encode_utf8 c) + length later = ap length parts ∙ length-append (encode_utf8 c) later in
    let place : length text - length later ≡ length text - length rest + length (encode_utf8 c) = omega (arith, size) in
    ap (λ (n : ℕ). read_from strict n next (chars later)) place ∙ sym (one_read_from strict (length text - length rest) r c (chars later) (Ok next) e)
    ∙ ap (read_from strict (length text - length rest) r) (sym more) ∙ whole

-- where a character is refused
pub read_stops : (text rest later : List ℕ) (c : ℕ) (r : Reader) (fault : PatternFault) (answer : Result (List PatternPlace) PatternFault) → chars rest ≡ c ∷ chars later
    → step strict (length text - length rest) c r ≡ Err fault → read_from strict (length text - length rest) r (chars rest) ≡ answer → answer ≡ Err fault
read_stops text rest later c r fault answer more e whole =
    sym whole ∙ ap (read_from strict (length text - length rest) r) more ∙ one_read_from strict (length text - length rest) r c (chars later) (Err fault) e

-- at the end
pub read_ends : (text rest : List ℕ) (r : Reader) (answer : Result (List PatternPlace) PatternFault) → rest ≡ [] → chars rest ≡ [] → read_from strict (length text - length rest) r (chars rest) ≡ answer
    → finished (length text) r ≡ answer
read_ends text rest r answer none over whole =
    let place : length text ≡ length text - length rest = rw none (omega arith) in
    ap (λ (n : ℕ). finished n r) place ∙ sym (end_read_from strict (length text - length rest) r) ∙ ap (read_from strict (length text - length rest) r) (sym over) ∙ whole

pub ends_ok : (text rest : List ℕ) (r : Reader) (places : List PatternPlace) (answer : Result (List PatternPlace) PatternFault) → rest ≡ [] → chars rest ≡ [] → read_from strict (length text - length rest) r (chars rest) ≡ answer
    → finished (length text) r ≡ Ok places → answer ≡ Ok places
ends_ok text rest r places answer none over whole e = sym (read_ends text rest r answer none over whole) ∙ e

pub ends_err : (text rest : List ℕ) (r : Reader) (fault : PatternFault) (answer : Result (List PatternPlace) PatternFault) → rest ≡ [] → chars rest ≡ [] → read_from strict (length text - length rest) r (chars rest) ≡ answer
    → finished (length text) r ≡ Err fault → answer ≡ Err fault
ends_err text rest r fault answer none over whole e = sym (read_ends text rest r answer none over whole) ∙ e
