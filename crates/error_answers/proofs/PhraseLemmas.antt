-- A number that is no status code has no phrase.
use Rattle.std.proofs.Common.{◌≡◌, ◌==◌, ◌<◌, ◌≤◌, ◌&&◌, ℕ, T, false, cond, nat_le, nat_lt, [], None, refl, sym, ◌∙◌, ap, arith}
use Rattle.std.specs.Prelude.{unwrap_or, codes}
use Rattle.std.proofs.lemmas.Bool.Decides.{nat_tests}
use Rattle.http.specs.StatusCode.{IsStatusCode, reason_phrase}
use Rattle.error_answers.specs.Errors.{phrase_of}

off_code : (n k : ℕ) → (IsStatusCode n → ⊥) → 100 ≤ k → k < 1000 → (n == k) ≡ false
off_code n k bad low high = grind (arith, nat_tests)

within : (k : ℕ) → T (nat_le 100 k && nat_lt k 1000) → IsStatusCode k
within k t = grind (arith, nat_tests)

no_reason : (n : ℕ) → (IsStatusCode n → ⊥) → reason_phrase n ≡ None
no_reason n bad =
    let off : (k : ℕ) → T (nat_le 100 k && nat_lt k 1000) → (n == k) ≡ false = λ k t. let b = within k t in off_code n k bad b.0 b.1 in
    rw (
      off 100 tt,
      off 101 tt,
      off 102 tt,
      off 103 tt,
      off 200 tt,
      off 201 tt,
      off 202 tt,
      off 203 tt,
      off 204 tt,
      off 205 tt,
      off 206 tt,
      off 207 tt,
      off 208 tt,
      off 226 tt,
      off 300 tt,
      off 301 tt,
      off 302 tt,
      off 303 tt,
      off 304 tt,
      off 305 tt,
      off 307 tt,
      off 308 tt,
      off 400 tt,
      off 401 tt,
      off 402 tt,
      off 403 tt,
      off 404 tt,
      off 405 tt,
      off 406 tt,
      off 407 tt,
      off 408 tt,
      off 409 tt,
      off 410 tt,
      off 411 tt,
      off 412 tt,
      off 413 tt,
      off 414 tt,
      off 415 tt,
      off 416 tt,
      off 417 tt,
      off 418 tt,
      off 421 tt,
      off 422 tt,
      off 423 tt,
      off 424 tt,
      off 425 tt,
      off 426 tt,
      off 428 tt,
      off 429 tt,
      off 431 tt,
      off 451 tt,
      off 500 tt,
      off 501 tt,
      off 502 tt,
      off 503 tt,
      off 504 tt,
      off 505 tt,
      off 506 tt,
      off 507 tt,
      off 508 tt,
      off 510 tt,
      off 511 tt,
    ) refl

pub no_phrase : (n : ℕ) → (IsStatusCode n → ⊥) → (n == 413) ≡ false → [] ≡ phrase_of n
unfolding phrase_of
no_phrase n bad other =
    sym (ap (λ b. cond b (codes "Content Too Large") (unwrap_or (reason_phrase n) [])) other ∙ ap (λ o. unwrap_or o []) (no_reason n bad))
