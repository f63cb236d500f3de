-- The texts of the files of the docroot but for bodies, as they are written.
-- `most_digits_of_u64` and `longest_stat_text` are needed by private functions alone.
use Rattle.std.specs.Prelude.{◌++◌, ℕ, List, codes, decimal}
use Rattle.cover_rules.specs.declared.stamp.Stamp.{Stamp}

-- the head of a page: its stamp, the length of its body, and the body's media type
abbrev pub head_text : Stamp → ℕ → List ℕ → List ℕ
head_text stamp size kind = codes "page 1 " ++ decimal stamp.epoch ++ codes " " ++ decimal stamp.count ++ codes " " ++ decimal size ++ codes " " ++ kind ++ codes "\n"

-- the stamp of a folder
abbrev pub stat_text : Stamp → List ℕ
stat_text stamp = codes "stat 1 " ++ decimal stamp.epoch ++ codes " " ++ decimal stamp.count ++ codes "\n"

-- the most digits of a number of 64 bits
abbrev pub most_digits_of_u64 : ℕ
most_digits_of_u64 = 20

-- the most bytes of a stamp's text: two words, two numbers, and what parts and ends them
abbrev pub longest_stat_text : ℕ
longest_stat_text = 49

-- the number of a session
abbrev pub epoch_text : ℕ → List ℕ
epoch_text epoch = codes "epoch 1 " ++ decimal epoch ++ codes "\n"
