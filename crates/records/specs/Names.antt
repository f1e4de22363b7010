-- Names of users, and comments. Assumes nothing.
--
-- user_byte b     the byte b is one of a to z or 0 to 9
-- user w          1 to 8 such bytes
-- comment_byte b  the byte b is one of 32 to 126
-- comment w       at most 100 such bytes
use Rattle.std.specs.Prelude.{ℕ, Bool, ◌&&◌, ◌||◌, List, length, nat_le}
use Rattle.std.specs.List.{list_all}
use Rattle.records.specs.Numerals.{digit}

abbrev pub user_byte : ℕ → Bool
user_byte b = (nat_le 97 b && nat_le b 122) || digit b

abbrev pub user : List ℕ → Bool
user w = nat_le 1 (length w) && (nat_le (length w) 8 && list_all user_byte w)

abbrev pub comment_byte : ℕ → Bool
comment_byte b = nat_le 32 b && nat_le b 126

abbrev pub comment : List ℕ → Bool
comment w = nat_le (length w) 100 && list_all comment_byte w
