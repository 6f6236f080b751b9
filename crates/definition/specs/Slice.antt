-- The slices' numbers, as BAD-TABLES and NO-SPACE name them, and the greatest length and limit (01, "Refused calls" and "The arena"; 02, 2.8).
use Rattle.std.specs.Prelude.{ℕ}

-- "1 nodes, 2 references, 3 bytes, 4 symbol list, 5 object list"
abbrev pub NODES : ℕ
NODES = 1

abbrev pub REFERENCES : ℕ
REFERENCES = 2

abbrev pub BYTES : ℕ
BYTES = 3

abbrev pub SYMBOLS : ℕ
SYMBOLS = 4

abbrev pub OBJECTS : ℕ
OBJECTS = 5

-- "6 output, 7 limit, 8 input or a builder's byte string, 9 a builder's member or pair list, 10 dump scratch"
abbrev pub OUTPUT : ℕ
OUTPUT = 6

abbrev pub LIMIT : ℕ
LIMIT = 7

abbrev pub INPUT : ℕ
INPUT = 8

abbrev pub MEMBERS : ℕ
MEMBERS = 9

abbrev pub SCRATCH : ℕ
SCRATCH = 10

-- the bucket table: "BAD-TABLES, slice 11"
abbrev pub BUCKETS : ℕ
BUCKETS = 11

-- "No lent slice in this paper .. has more than 2,147,483,647 entries"
abbrev pub greatest_length : ℕ
greatest_length = 2147483647

-- "a level limit of 0 to 128"
abbrev pub greatest_limit : ℕ
greatest_limit = 128
