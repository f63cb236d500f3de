-- What is found at the beginning of a stream, in as many bytes as a head may have. Only private functions and proofs cite this.
use Rattle.std.specs.Prelude.{◌≡◌, ◌⊎◌, ◌<◌, ◌≤◌, ℕ, List, length, drop}
use Rattle.httparse.specs.Grammar.{RequestHead, print_request, ReadsRequest, HasNoRequest, NeverHasRequest, MayBecomeRequest}
use Rattle.httparse.specs.Spans.{RequestExceeds}
use Rattle.httparse.specs.declared.spans.HeaderSpan.{HeaderSpan}
use Rattle.httparse.specs.declared.spans.RequestSpans.{RequestSpans}
use Rattle.http_front.specs.declared.fault.InFault.TheVariants.{BadHead}
use Rattle.http_front.specs.declared.window.StreamStart.{StreamStart}
use Rattle.http_front.specs.declared.window.StreamStart.TheVariants.{Whole, Partial, Refused, Crowded}
use Rattle.http_front.specs.Heads.{request_parts_at, parts_of}
use Rattle.http_front.specs.Turns.{BeginsAsking, BeginsRefused, AwaitsHead, HasNoHead, longest_head}

-- spans for as many fields as no head has
abbrev pub most_spans : ℕ
most_spans = 8192

-- the first bytes hold this head, and its parts stand at these places
pub record HoldsHead (bytes : List ℕ) (fields : List HeaderSpan) (spans : RequestSpans) (head : RequestHead) : Type 0 where
  pub reads : ReadsRequest bytes head (drop spans.len bytes)
  pub len_is : spans.len ≡ length (print_request head)
  pub len_fits : spans.len ≤ length bytes
  pub parts_are : request_parts_at bytes fields spans ≡ parts_of head

-- the first bytes hold a head, and its parts stand at these places
abbrev pub HoldsSomeHead : List ℕ → List HeaderSpan → RequestSpans → Type 0
HoldsSomeHead bytes fields spans = (head : RequestHead) × HoldsHead bytes fields spans head

-- what is found at the beginning of bytes, which are no more than a head may have, with room for this number of fields
abbrev pub IsWindowStart : List ℕ → ℕ → StreamStart → Type 0
IsWindowStart bytes room (Whole head len) = (0 < len) × (len ≤ length bytes) × BeginsAsking bytes head (drop len bytes)
IsWindowStart bytes room Partial = HasNoRequest bytes × MayBecomeRequest bytes
IsWindowStart bytes room (Refused fault) = BeginsRefused bytes fault ⊎ ((fault ≡ BadHead) × NeverHasRequest bytes)
IsWindowStart bytes room Crowded = RequestExceeds room bytes

-- what is found at the beginning of a whole stream
abbrev pub IsStart : List ℕ → StreamStart → Type 0
IsStart stream (Whole head len) = (0 < len) × (len ≤ length stream) × BeginsAsking stream head (drop len stream)
IsStart stream Partial = AwaitsHead stream × (length stream < longest_head)
IsStart stream (Refused fault) = BeginsRefused stream fault ⊎ HasNoHead stream fault
IsStart stream Crowded = ⊥
