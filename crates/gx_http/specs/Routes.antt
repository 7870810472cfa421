-- What may be asked for, by its path and its method.
use Rattle.std.specs.Prelude.{ℕ, List, Option, Some, None, Result, Ok, Err, if◌then◌else◌, bytes_eq, codes}
use Rattle.gx_http.specs.declared.{request.RequestFault.RequestFault, routes.{Method.Method, Route.Route}}

-- the path of each
abbrev pub route_at : List ℕ → Option Route
route_at path =
    if bytes_eq path (codes "/") then Some Route.Page
    else if bytes_eq path (codes "/page.js") then Some Route.Script
    else if bytes_eq path (codes "/page.css") then Some Route.Style
    else if bytes_eq path (codes "/state.json") then Some Route.State
    else if bytes_eq path (codes "/metrics") then Some Route.Metrics
    else if bytes_eq path (codes "/healthz") then Some Route.Health
    else if bytes_eq path (codes "/kill") then Some Route.Kill
    else None

-- a kill is posted, all else is read
abbrev pub method_of : Route → Method
method_of Route.Kill = Method.Post
method_of other = Method.Get

abbrev pub method_text : Method → List ℕ
method_text Method.Get = codes "GET"
method_text Method.Post = codes "POST"

-- the route, if it is asked for by its method
abbrev pub by_its_method : List ℕ → Option Route → Result Route RequestFault
by_its_method method None = Err RequestFault.NotFound
by_its_method method (Some route) =
    if bytes_eq method (method_text (method_of route)) then Ok route else Err (RequestFault.MethodNotAllowed (method_of route))

-- what a request of this method and this path asks for
abbrev pub route_of : List ℕ → List ℕ → Result Route RequestFault
route_of method path = by_its_method method (route_at path)
