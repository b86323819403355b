-- The texts by which the stacks are known.
use Rattle.std.specs.Prelude.{ℕ, List, [], codes}
use Rattle.qa_convert.specs.declared.stacks.Stack.{Stack}
use Rattle.qa_convert.specs.declared.stacks.Stack.TheVariants as stack

abbrev pub stack_name : Stack → List ℕ
stack_name stack.QuicGo = codes "quic-go"
stack_name stack.QuicGo050 = codes "quic-go-0.50"
stack_name stack.QuicGo059 = codes "quic-go-0.59"
stack_name stack.Ngtcp2 = codes "ngtcp2"
stack_name stack.Aioquic = codes "aioquic"
stack_name stack.OpenSsl = codes "openssl"
stack_name stack.Neqo = codes "neqo"
stack_name stack.Chromium = codes "chromium"
stack_name stack.Quinn = codes "quinn"
stack_name stack.Quiche = codes "quiche"
stack_name stack.Mvfst = codes "mvfst"
stack_name stack.Generic = codes "generic"

-- in the title or the name of the vantage point
abbrev pub stack_mark : Stack → List ℕ
stack_mark stack.QuicGo = codes "quic-go"
stack_mark stack.QuicGo050 = codes "quic-go"
stack_mark stack.QuicGo059 = codes "quic-go"
stack_mark stack.Ngtcp2 = codes "ngtcp2"
stack_mark stack.Aioquic = codes "aioquic"
stack_mark stack.OpenSsl = codes "openssl/"
stack_mark stack.Neqo = codes "neqo"
stack_mark stack.Chromium = codes "netlog of chromium"
stack_mark stack.Quinn = codes "quinn"
stack_mark stack.Quiche = codes "quiche"
stack_mark stack.Mvfst = codes "mvfst"
stack_mark stack.Generic = []

-- the version or schema begins with this
abbrev pub stack_schema : Stack → List ℕ
stack_schema stack.QuicGo = codes "draft"
stack_schema stack.QuicGo050 = codes "0."
stack_schema stack.QuicGo059 = codes "urn:"
stack_schema _ = []

-- what to do if a log gives no trace
abbrev pub stack_advice : Stack → List ℕ
stack_advice stack.Quinn =
    codes "quinn logs none; hooks in its recovery code give a trace (docs/stacks.md)"
stack_advice _ = []
