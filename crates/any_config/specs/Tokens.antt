-- The tokens of a file dispatcher.any (Adobe Dispatcher manual, "Configuring Dispatcher"). A name is read with the blanks and comments after it.
-- `TokenFails` and `TokenGives` are needed by private functions and proofs alone.
use Rattle.std.specs.Prelude.{◌≡◌, ℕ, Bool, true, false, not, ◌||◌, ◌&&◌, if◌then◌else◌, ◌==◌, nat_le, List, [], ◌∷◌, length, take, drop, Result, Ok, Err}
use Rattle.std.specs.List.{position_or_len}
use Rattle.std.specs.Str.{is_utf8}
use Rattle.sp_base.specs.Outcomes.{◌>>=◌}
use Rattle.sp_base.specs.Bytes.{begins_with_byte}
use Rattle.any_config.specs.declared.stop.AnyStop.{AnyStop}
use Rattle.any_config.specs.declared.stop.AnyStop.TheVariants.{NoMemory, BadName, BadQuote, TooDeep, Unclosed}
use Rattle.any_config.specs.declared.tokens.ByteRun.{ByteRun}
use Rattle.any_config.specs.declared.tokens.ByteRun.TheVariants.{Name, Plain, Quoted}
use Rattle.any_config.specs.declared.node.AnyNode.{AnyNode}
use Rattle.any_config.specs.declared.node.AnyNode.TheVariants as node

-- what was read and the bytes after it, or why nothing was; a place is told by the bytes that are left there
abbrev pub TokenOutcome : Type 0 → Type 0
TokenOutcome A = Result (A × List ℕ) AnyStop

-- the reason is that of the reading, unless memory ran out
abbrev pub TokenFails : {Y : Type 0} → AnyStop → Result Y AnyStop → Type 0
TokenFails NoMemory read = Unit {0}
TokenFails (BadName n) read = read ≡ Err (BadName n)
TokenFails (BadQuote n) read = read ≡ Err (BadQuote n)
TokenFails (TooDeep n) read = read ≡ Err (TooDeep n)
TokenFails (Unclosed n) read = read ≡ Err (Unclosed n)

-- what a function returned, seen by view, is what reading gives, unless memory ran out
abbrev pub TokenGives : {X Y : Type 0} → (X → Y) → Result X AnyStop → Result Y AnyStop → Type 0
TokenGives view (Ok x) read = read ≡ Ok (view x)
TokenGives view (Err e) read = TokenFails e read

-- a line feed or a carriage return ends a line
abbrev pub is_line_end : ℕ → Bool
is_line_end c = c == 10 || c == 13

-- a space, a tab, or the end of a line
abbrev pub is_config_blank : ℕ → Bool
is_config_blank c = c == 32 || (c == 9 || is_line_end c)

-- the bytes from the first one on that is neither a blank nor in a comment, which goes from a `#` to the line's end
abbrev pub after_blanks_and_comments : Bool → List ℕ → List ℕ
after_blanks_and_comments in_comment [] = []
after_blanks_and_comments true (c ∷ t) = after_blanks_and_comments (not (is_line_end c)) t
after_blanks_and_comments false (c ∷ t) = if c == 35 then after_blanks_and_comments true t else (if is_config_blank c then after_blanks_and_comments false t else c ∷ t)

-- the same from a place outside of a comment on
unfoldable pub comments_skipped : List ℕ → List ℕ
comments_skipped t = after_blanks_and_comments false t

-- letters and digits of ASCII
abbrev pub is_letter_or_digit : ℕ → Bool
is_letter_or_digit c = (nat_le 65 c && nat_le c 90) || ((nat_le 97 c && nat_le c 122) || (nat_le 48 c && nat_le c 57))

-- letters, digits, `_`, `-` and `.`
abbrev pub is_config_name_byte : ℕ → Bool
is_config_name_byte c = is_letter_or_digit c || (c == 95 || (c == 45 || c == 46))

-- letters, digits, `.`, `_`, `:`, `*` and `-`
abbrev pub is_plain_byte : ℕ → Bool
is_plain_byte c = is_config_name_byte c || (c == 58 || c == 42)

-- whether a byte ends a run: of a name, of a plain word, of what stands in quotes
abbrev pub ends : ByteRun → ℕ → Bool
ends Name c = not (is_config_name_byte c)
ends Plain c = not (is_plain_byte c)
ends (Quoted mark) c = c == mark || is_line_end c

-- how many of the first bytes belong to a run
unfoldable pub run_len : ByteRun → List ℕ → ℕ
run_len run t = position_or_len (ends run) t

-- the name of a member, empty where it has none
unfoldable pub member_name : List ℕ → TokenOutcome (List ℕ)
member_name t =
    if begins_with_byte 47 t then (
    if run_len Name (drop 1 t) == 0 then Err (BadName (length t))
    else Ok (take (run_len Name (drop 1 t)) (drop 1 t), comments_skipped (drop (run_len Name (drop 1 t)) (drop 1 t))))
    else Ok ([], t)

-- a plain word; where there is none the fault is at the member
unfoldable pub unquoted_word : ℕ → List ℕ → TokenOutcome AnyNode
unquoted_word at t = if run_len Plain t == 0 then Err (BadName at) else Ok (node.Word (take (run_len Plain t) t), drop (run_len Plain t) t)

-- a text in double quotes is a word, one in single quotes a pattern
abbrev pub quoted_node : ℕ → List ℕ → AnyNode
quoted_node mark text = if mark == 34 then node.Word text else node.Pattern text

-- a text in quotes: UTF-8 up to the same mark, on one line
unfoldable pub quoted_value : ℕ → List ℕ → TokenOutcome AnyNode
quoted_value mark t =
    if begins_with_byte mark (drop (run_len (Quoted mark) (drop 1 t)) (drop 1 t)) && is_utf8 (take (run_len (Quoted mark) (drop 1 t)) (drop 1 t))
    then Ok (quoted_node mark (take (run_len (Quoted mark) (drop 1 t)) (drop 1 t)), drop 1 (drop (run_len (Quoted mark) (drop 1 t)) (drop 1 t)))
    else Err (BadQuote (length t))

-- a value that is no group
unfoldable pub ungrouped_value : ℕ → List ℕ → TokenOutcome AnyNode
ungrouped_value at t = if begins_with_byte 34 t then quoted_value 34 t else (if begins_with_byte 39 t then quoted_value 39 t else unquoted_word at t)
