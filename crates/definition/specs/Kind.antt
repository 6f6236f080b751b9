-- The kind bytes, as the kind type's associated constants name them (01, "Value"; 02, 2.1, 2.4 and 2.9).
use Rattle.std.specs.Prelude.{ℕ}

-- `0` `T` `F` `i`
abbrev pub NIL : ℕ
NIL = 0x30

abbrev pub TRUE : ℕ
TRUE = 0x54

abbrev pub FALSE : ℕ
FALSE = 0x46

abbrev pub FIXNUM : ℕ
FIXNUM = 0x69

-- `:` `;` `@` `I`
abbrev pub SYMBOL : ℕ
SYMBOL = 0x3A

abbrev pub SYMBOL_LINK : ℕ
SYMBOL_LINK = 0x3B

abbrev pub OBJECT_LINK : ℕ
OBJECT_LINK = 0x40

abbrev pub INSTANCE_VARIABLES : ℕ
INSTANCE_VARIABLES = 0x49

-- `[` `{` `}` `o` `"` `u` `f` `l`
abbrev pub ARRAY : ℕ
ARRAY = 0x5B

abbrev pub HASH : ℕ
HASH = 0x7B

abbrev pub HASH_DEFAULT : ℕ
HASH_DEFAULT = 0x7D

abbrev pub OBJECT : ℕ
OBJECT = 0x6F

abbrev pub STRING : ℕ
STRING = 0x22

abbrev pub USER_DEFINED : ℕ
USER_DEFINED = 0x75

abbrev pub FLOAT : ℕ
FLOAT = 0x66

abbrev pub BIGNUM : ℕ
BIGNUM = 0x6C

-- `C`
abbrev pub USER_CLASS : ℕ
USER_CLASS = 0x43

-- a Bignum's sign bytes: `+` `-`
abbrev pub PLUS : ℕ
PLUS = 0x2B

abbrev pub MINUS : ℕ
MINUS = 0x2D
