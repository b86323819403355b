-- What the first bytes of a file may be that is no trace.
use Rattle.std.specs.Prelude.{ℕ, nat_eq, not, ◌&&◌, ◌||◌, Bool, false, codes, List, [], ◌∷◌}
use Rattle.std.specs.Prelude.{if◌then◌else◌}
use Rattle.std.specs.List.{starts_with}

-- the bytes begin with these
abbrev pub begins : List ℕ → List ℕ → Bool
begins line part = starts_with nat_eq line part

-- these stand among the bytes, from some byte on
abbrev pub has : List ℕ → List ℕ → Bool
has [] part = false
has (byte ∷ line) part = begins (byte ∷ line) part || has line part

-- compressed, by the first bytes of the file's format
abbrev pub is_gzip : List ℕ → Bool
is_gzip line = begins line (31 ∷ 139 ∷ [])

abbrev pub is_zstd : List ℕ → Bool
is_zstd line = begins line (40 ∷ 181 ∷ 47 ∷ 253 ∷ [])

abbrev pub is_xz : List ℕ → Bool
is_xz line = begins line (253 ∷ 55 ∷ 122 ∷ 88 ∷ 90 ∷ 0 ∷ [])

-- a byte order mark of UTF-8
abbrev pub is_marked : List ℕ → Bool
is_marked line = begins line (239 ∷ 187 ∷ 191 ∷ [])

-- of UTF-16, or a character in two bytes
abbrev pub is_utf16 : List ℕ → Bool
is_utf16 line = begins line (255 ∷ 254 ∷ []) || begins line (254 ∷ 255 ∷ []) || has line (0 ∷ [])

-- a JSON text sequence (RFC 7464)
abbrev pub is_sequence : List ℕ → Bool
is_sequence line = begins line (30 ∷ [])

abbrev pub is_qlog : List ℕ → Bool
is_qlog line =
    has line (codes "\"qlog_version\"") || has line (codes "\"qlog_format\"")
    || has line (codes "\"file_schema\"")

abbrev pub is_array : List ℕ → Bool
is_array line = begins line (codes "[")

-- an object begins on the line, and does not end there
abbrev pub is_opened : List ℕ → Bool
is_opened line = begins line (codes "{") && not (has line (codes "}"))

-- the first of these that the line of the fault is
unfoldable pub hint : List ℕ → List ℕ
hint line =
    if is_gzip line then codes "  Hint: the file is compressed by gzip. Use zcat FILE | qaudit-why for a trace, zcat FILE | qlog-to-trace | qaudit-why for a qlog.\n" else
    (if is_zstd line then codes "  Hint: the file is compressed by zstd. Use zstdcat FILE | qaudit-why for a trace, zstdcat FILE | qlog-to-trace | qaudit-why for a qlog.\n" else
    (if is_xz line then codes "  Hint: the file is compressed by xz. Use xzcat FILE | qaudit-why for a trace, xzcat FILE | qlog-to-trace | qaudit-why for a qlog.\n"
    else
    (if is_marked line then codes "  Hint: the file begins with a byte order mark; leave it out.\n"
    else
    (if is_sequence line then codes "  Hint: the file is a JSON text sequence (RFC 7464), as qlog writes; qlog-to-trace reads it.\n" else
    (if is_qlog line then codes "  Hint: the file is a qlog file; qlog-to-trace makes traces of it.\n" else
    (if is_utf16 line then codes "  Hint: the file seems to be UTF-16; write it as UTF-8.\n" else
    (if is_array line then codes "  Hint: the file is a JSON array; a trace has one object on each line.\n" else
    (if is_opened line then codes "  Hint: the object goes over several lines; a trace has one on each line.\n" else
    []))))))))
